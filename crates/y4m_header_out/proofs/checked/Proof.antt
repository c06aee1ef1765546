-- `y4m_header_out::checked` meets its contract: a row of checks. Assumes nothing.
use Rattle.std.specs.Prelude.{Ok, Err}
use mathlib.Core.Path.{◌≡◌, refl}
use mathlib.Core.Bool.{Bool, not, true, false}
use Prim.Native.Nat.{ℕ}
use borrow.Author.Rules.{rules}
use borrow.Author.Tests.{eq-eqb, ne_eqb}
use Rattle.laws.proofs.Calls.{at_refusal, past_refusal, stops, goes_on}
use Rattle.def.specs.Picture.{size_ok}
use Rattle.def.specs.declared.Format.{Format}
use Rattle.def.specs.declared.Refusal.TheVariants.{Size, Length, Setting}
use Rattle.y4m_header_out.specs.WriteCall.{numbers_ok, check_of}
use Rattle.y4m_header_out.proofs.checked.Statement.{statement}
use Rattle.y4m_header_out.proofs.checked.Tie as tie

-- the rungs, one below the other
module _ (c : Format) (w h f g a b n : ℕ) (s : Bool) (e : s ≡ size_ok w h) where
  at_size : not s ≡ true → Err Size ≡ check_of c w h f g a b n
  at_size t = stops s (size_ok w h) _ _ e t

  module _ (sized : not s ≡ false) where
    at_length : (n ≡ 256 → ⊥) → Err Length ≡ check_of c w h f g a b n
    at_length t = goes_on s (size_ok w h) _ _ _ e sized (at_refusal _ _ _ (ne_eqb n 256 t))

    module _ (long : n ≡ 256) (k : Bool) (o : k ≡ numbers_ok c f g a b) where
      at_numbers : not k ≡ true → Err Setting ≡ check_of c w h f g a b n
      at_numbers t = goes_on s (size_ok w h) _ _ _ e sized (past_refusal _ _ _ _ (eq-eqb n 256 long) (stops k _ _ _ o t))

      at_done : not k ≡ false → (Ok tt) ≡ check_of c w h f g a b n
      at_done t = goes_on s (size_ok w h) _ _ _ e sized (past_refusal _ _ _ _ (eq-eqb n 256 long) (goes_on k _ _ _ _ o t refl))

returns : tie.Need-returns-then-not-size_ok
returns c = let a = c.args in at_size a.format a.w a.h a.f a.g a.a a.b a.out _ c.size_ok.ensures c.if-not-size_ok.true-raw

returns-2 : tie.Need-returns-then-out-ne256
returns-2 c = let a = c.args in
    at_length a.format a.w a.h a.f a.g a.a a.b a.out _ c.size_ok.ensures c.if-not-size_ok.false-raw c.if-out-ne256.true

returns-3 : tie.Need-returns-then-not-numbers_ok
returns-3 c =
    let a = c.args in
    at_numbers a.format a.w a.h a.f a.g a.a a.b a.out _ c.size_ok.ensures c.if-not-size_ok.false-raw
    c.if-out-ne256.false _ c.numbers_ok.ensures c.if-not-numbers_ok.true-raw

returns-4 : tie.Need-returns
returns-4 c =
    let a = c.args in
    at_done a.format a.w a.h a.f a.g a.a a.b a.out _ c.size_ok.ensures c.if-not-size_ok.false-raw
    c.if-out-ne256.false _ c.numbers_ok.ensures c.if-not-numbers_ok.false-raw

pub checked_spec : {M : Type 1} → statement M
checked_spec = tie.close (tie.spec (λ c κs. search rules) returns returns-2 (λ c κs. search rules) returns-3 returns-4)
