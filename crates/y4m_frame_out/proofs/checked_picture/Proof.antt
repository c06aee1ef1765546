-- `y4m_frame_out::checked_picture` meets its contract: a row of checks. Assumes nothing.
use Rattle.std.specs.Prelude.{Ok, Err}
use mathlib.Core.Path.{◌≡◌, refl, sym, ◌∙◌}
use mathlib.Core.Bool.{Bool, not, true, false, ◌&&◌}
use mathlib.Core.List.{List}
use Prim.Native.Nat.{ℕ}
use borrow.Author.Rules.{rules}
use lib.ListN.{length}
use Rattle.laws.proofs.Calls.{stops, goes_on}
use Rattle.def.specs.Picture.{size_ok}
use Rattle.def.specs.declared.Format.{Format}
use Rattle.def.specs.declared.Refusal.TheVariants.{Size, Length, Setting, Sample}
use Rattle.def.proofs.Sizes.{sized}
use Rattle.samples.specs.Samples.{samples_ok}
use Rattle.y4m_rules.specs.Frames.{colour_ok}
use Rattle.y4m_frame_out.specs.WriteCall.{lengths_ok, planes_ok, check_of}
use Rattle.y4m_frame_out.proofs.checked_picture.Statement.{statement}
use Rattle.y4m_frame_out.proofs.checked_picture.Tie as tie

-- the rungs, one below the other
module _ (c : Format) (w h : ℕ) (y u v : List ℕ) (out : ℕ) (s : Bool) (e : s ≡ size_ok w h) where
  at_size : not s ≡ true → Err Size ≡ check_of c w h y u v out
  unfolding check_of
  at_size t = stops s (size_ok w h) _ _ e t

  module _ (ps : not s ≡ false) (l : Bool) (f : l ≡ lengths_ok c w h (length y) (length u) (length v) out) where
    at_length : not l ≡ true → Err Length ≡ check_of c w h y u v out
    unfolding check_of
    at_length t = goes_on s (size_ok w h) _ _ _ e ps (stops l _ _ _ f t)

    module _ (pl : not l ≡ false) (k : Bool) (g : k ≡ colour_ok c) where
      at_colour : not k ≡ true → Err Setting ≡ check_of c w h y u v out
      unfolding check_of
      at_colour t = goes_on s (size_ok w h) _ _ _ e ps (goes_on l _ _ _ _ f pl (stops k _ _ _ g t))

      module _ (pk : not k ≡ false) (a b d : Bool) (ey : a ≡ samples_ok y) (eu : b ≡ samples_ok u) (ev : d ≡ samples_ok v) where
        planes : ((a && b) && d) ≡ planes_ok y u v
        unfolding planes_ok
        planes = rw (ey, eu, ev)

        at_sample : not ((a && b) && d) ≡ true → Err Sample ≡ check_of c w h y u v out
        unfolding check_of
        at_sample t = goes_on s (size_ok w h) _ _ _ e ps (goes_on l _ _ _ _ f pl (goes_on k _ _ _ _ g pk (stops _ _ _ _ planes t)))

        at_done : not ((a && b) && d) ≡ false → (Ok tt) ≡ check_of c w h y u v out
        unfolding check_of
        at_done t = goes_on s (size_ok w h) _ _ _ e ps (goes_on l _ _ _ _ f pl (goes_on k _ _ _ _ g pk (goes_on _ _ _ _ _ planes t refl)))

returns : tie.Need-returns-then-not-size_ok
returns c = let a = c.args in at_size a.format a.w a.h a.y.now a.u.now a.v.now a.out _ c.size_ok.ensures c.if-not-size_ok.true-raw

lengths_ok_requires : tie.Need-lengths_ok-requires
lengths_ok_requires c κs =
    let z = sized c.args.w c.args.h (sym c.size_ok.ensures ∙ c.if-not-size_ok.false) in
    (z.wide, z.high)

returns-2 : tie.Need-returns-then-not-lengths_ok
returns-2 c =
    let a = c.args in
    at_length a.format a.w a.h a.y.now a.u.now a.v.now a.out _ c.size_ok.ensures
    c.if-not-size_ok.false-raw _ c.lengths_ok.ensures c.if-not-lengths_ok.true-raw

returns-3 : tie.Need-returns-then-not-colour_ok
returns-3 c =
    let a = c.args in
    at_colour a.format a.w a.h a.y.now a.u.now a.v.now a.out _ c.size_ok.ensures
    c.if-not-size_ok.false-raw _ c.lengths_ok.ensures c.if-not-lengths_ok.false-raw
    _ c.colour_ok.ensures c.if-not-colour_ok.true-raw

returns-4 : tie.Need-returns-then-not-samples_ok
returns-4 c =
    let a = c.args in
    at_sample a.format a.w a.h a.y.now a.u.now a.v.now a.out _
    c.size_ok.ensures
    c.if-not-size_ok.false-raw _
    c.lengths_ok.ensures c.if-not-lengths_ok.false-raw
    _ c.colour_ok.ensures c.if-not-colour_ok.false-raw _ _ _ c.samples_ok.ensures
    c.samples_ok-2.ensures c.samples_ok-3.ensures c.if-not-samples_ok.true-raw

returns-5 : tie.Need-returns
returns-5 c =
    let a = c.args in
    at_done a.format a.w a.h a.y.now a.u.now a.v.now a.out _
    c.size_ok.ensures
    c.if-not-size_ok.false-raw _
    c.lengths_ok.ensures c.if-not-lengths_ok.false-raw
    _ c.colour_ok.ensures c.if-not-colour_ok.false-raw _ _ _ c.samples_ok.ensures
    c.samples_ok-2.ensures c.samples_ok-3.ensures c.if-not-samples_ok.false-raw

pub checked_picture_spec : {M : Type 1} → statement M
checked_picture_spec =
    tie.close
    (tie.spec
    (λ c κs. search rules)
    returns
    lengths_ok_requires
    returns-2
    (λ c κs. search rules)
    returns-3
    (λ c κs. search rules)
    (λ c κs. search rules)
    (λ c κs. search rules)
    returns-4
    returns-5)
