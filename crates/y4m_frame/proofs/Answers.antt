-- The ladder and the outcome of `read_frame`, and what its answer tells.
--     at_line, at_short, at_sample, at_read, at_size, at_length, at_frame    the rungs
--     Readable, readable, read_refused, read_done    the outcome
--     frame_apart    an answer's reading tells it apart from every other
-- Assumes nothing.
use Rattle.std.specs.Prelude.{Result, Ok, Err}
use mathlib.Core.Bool.{Bool, true, false, not, ◌&&◌}
use mathlib.Core.List.{List, [], ◌∷◌}
use mathlib.Core.Path.{◌≡◌, refl, sym, ap, ap₂, ◌∙◌}
use Prim.Native.Nat.{ℕ, ◌+◌, ◌*◌, ◌≤◌, ◌<◌}
use native.Mathlib.Omega.{arith}
use borrow.Author.Tests.{eqb-true, leb-true, le-leb, lt-leb}
use lib.Dec.{eqb, leb}
use lib.ListN.{length}
use Rattle.laws.specs.Call.{Gives, unless}
use Rattle.laws.proofs.Calls.{all_at, stops, goes_on, at_refusal, past_refusal}
use Rattle.def.specs.Picture.{size_ok, luma_length, chroma_length}
use Rattle.def.specs.declared.Refusal.{Refusal}
use Rattle.def.specs.declared.Refusal.TheVariants.{Size, Length, Sample, Stream, Short}
use Rattle.def.proofs.Answers.{number_apart, number_some}
use Rattle.y4m_rules.specs.Frames.{plane_at, line_ok, line_place, y_from, u_from, v_from, frame_end, planes_ok}
use Rattle.y4m_frame.specs.ReadCall as reading
use Rattle.y4m_rules.specs.Misreads.{misread}
use Rattle.y4m_rules.specs.declared.Misread.{Misread}

-- ---- the rungs of reading

module _ (s : List ℕ) (at luma chroma : ℕ) (t : Bool) (e : t ≡ line_ok s at) where
  pub at_line : not t ≡ true → (p : ℕ) → p ≡ line_place s at → Err (misread Stream p) ≡ reading.frame_of s at luma chroma
  unfolding reading.frame_of
  at_line q p g = ap (λ (n : ℕ). Err (misread Stream n)) g ∙ stops t (line_ok s at) _ _ e q

  module _ (pt : not t ≡ false) where
    pub at_short : length s < frame_end at luma chroma → Err (misread Short 0) ≡ reading.frame_of s at luma chroma
    unfolding reading.frame_of
    at_short h = goes_on t (line_ok s at) _ _ _ e pt (at_refusal _ _ _ (lt-leb _ _ h))

    module _ (h : frame_end at luma chroma ≤ length s) (k : Bool) (f : k ≡ planes_ok s at luma chroma) where
      pub at_sample : not k ≡ true → Err (misread Sample 0) ≡ reading.frame_of s at luma chroma
      unfolding reading.frame_of
      at_sample q = goes_on t (line_ok s at) _ _ _ e pt (past_refusal _ _ _ _ (le-leb _ _ h) (stops k _ _ _ f q))

      pub at_read : not k ≡ false → (n : ℕ) → n ≡ frame_end at luma chroma → Ok n ≡ reading.frame_of s at luma chroma
      unfolding reading.frame_of
      at_read q n g = goes_on t (line_ok s at) _ _ _ e pt (past_refusal _ _ _ _ (le-leb _ _ h) (goes_on k _ _ _ _ f q (ap Ok g)))

module _ (s : List ℕ) (at w h y u v : ℕ) (t : Bool) (e : t ≡ size_ok w h) where
  pub at_size : not t ≡ true → Err (misread Size 0) ≡ reading.check_of s at w h y u v
  unfolding reading.check_of
  at_size q = stops t (size_ok w h) _ _ e q

  module _ (pt : not t ≡ false) where
    planes : ((eqb y (luma_length w h) && eqb u (chroma_length w h)) && eqb v (chroma_length w h)) ≡ reading.lengths_ok w h y u v
    unfolding reading.lengths_ok
    planes = refl

    pub at_length : not ((eqb y (luma_length w h) && eqb u (chroma_length w h)) && eqb v (chroma_length w h)) ≡ true → Err (misread Length 0) ≡ reading.check_of s at w h y u v
    unfolding reading.check_of
    at_length q = goes_on t (size_ok w h) _ _ _ e pt (stops _ _ _ _ planes q)

    pub at_frame : not ((eqb y (luma_length w h) && eqb u (chroma_length w h)) && eqb v (chroma_length w h)) ≡ false → (x : Result ℕ Misread)
        → x ≡ reading.frame_of s at (luma_length w h) (chroma_length w h) → x ≡ reading.check_of s at w h y u v
    unfolding reading.check_of
    at_frame q x p = goes_on t (size_ok w h) _ _ _ e pt (goes_on _ _ _ _ _ planes q p)

-- ---- what a frame that is read tells

-- a rung that was passed
record Past (t : Bool) (k : Result ℕ Misread) (n : ℕ) : Type 0 where
  holds : t ≡ true
  rest : k ≡ Ok n

past : (t : Bool) (r : Refusal) (p : ℕ) (k : Result ℕ Misread) (n : ℕ) → unless t (Err (misread r p)) k ≡ Ok n → Past t k n
past true r p k n e = record { holds = refl; rest = e }
past false r p k n e = absurd (let z : ◌≡◌ {A = ℕ} 0 1 = cc in omega arith)

pub record Readable (s : List ℕ) (at y u v : ℕ) (w h : ℕ) : Type 0 where
  pub y_long : y ≡ luma_length w h
  pub u_long : u ≡ chroma_length w h
  pub v_long : v ≡ chroma_length w h
  pub inside : frame_end at y u ≤ length s

pub readable : (s : List ℕ) (at w h y u v n : ℕ) → reading.check_of s at w h y u v ≡ Ok n → Readable s at y u v w h
unfolding reading.check_of reading.lengths_ok reading.frame_of
readable s at w h y u v n e =
    let a = past (size_ok w h) Size 0 _ n e in
    let tests = eqb y (luma_length w h) ∷ eqb u (chroma_length w h) ∷ eqb v (chroma_length w h) ∷ [] in
    let b = past _ Length 0 _ n a.rest in
    let c = past (line_ok s at) Stream (line_place s at) _ n b.rest in
    let d = past (leb (frame_end at (luma_length w h) (chroma_length w h)) (length s)) Short 0 _ n c.rest in
    let yl = eqb-true y (luma_length w h) (all_at tests 0 b.holds) in
    let ul = eqb-true u (chroma_length w h) (all_at tests 1 b.holds) in
    let vl = eqb-true v (chroma_length w h) (all_at tests 2 b.holds) in
    let f : frame_end at (luma_length w h) (chroma_length w h) ≤ length s = leb-true _ _ d.holds in
    record { y_long = yl; u_long = ul; v_long = vl; inside = rw (yl, ul) f }

module _ (i : reading.Input) (k : Result ℕ Misread) (e : k ≡ reading.check i) where
  pub read_refused : (m : Misread) → k ≡ Err m → Gives reading.outcome i (reading.after i (Err m))
  unfolding reading.outcome
  read_refused m q = ap (reading.after i) (sym q ∙ e)

  pub read_done : (n : ℕ) (y u v : List ℕ) → k ≡ Ok n
      → y ≡ plane_at i.input (i.at + 6) (length i.y)
      → u ≡ plane_at i.input (i.at + 6 + 2 * length i.y) (length i.u)
      → v ≡ plane_at i.input (i.at + 6 + 2 * length i.y + 2 * length i.u) (length i.v)
      → Gives reading.outcome i (record { reading = reading.reading_of (Ok n); y = y; u = u; v = v })
  unfolding reading.outcome
  read_done n y u v q py pu pv =
      let r = readable i.input i.at i.w i.h (length i.y) (length i.u) (length i.v) n (sym e ∙ q) in
      (λ j. record {
        reading = reading.reading_of (Ok n);
        y = (py ∙ ap (plane_at i.input (y_from i.at)) r.y_long) j;
        u = (pu ∙ ap₂ (λ (a b : ℕ). plane_at i.input (u_from i.at a) b) r.y_long r.u_long) j;
        v = (pv ∙ ap₂ (λ (a b : ℕ). plane_at i.input (v_from i.at a b) (length i.v)) r.y_long r.u_long
            ∙ ap (plane_at i.input (v_from i.at (luma_length i.w i.h) (chroma_length i.w i.h))) r.v_long) j;
      })
      ∙ ap (reading.after i) (sym q ∙ e)

pub frame_apart : (a b : Result ℕ Misread) → reading.reading_of a ≡ reading.reading_of b → a ≡ b
frame_apart (Ok n) (Ok m) e = ap Ok (ap (λ (o : reading.Reading). o.next) e)
frame_apart (Ok n) (Err m) e = absurd (let z = ap (λ (o : reading.Reading). o.number) e in omega (arith, number_some m.refusal))
frame_apart (Err m) (Ok n) e = absurd (let z = ap (λ (o : reading.Reading). o.number) e in omega (arith, number_some m.refusal))
frame_apart (Err m) (Err m') e =
    ap₂ (λ (r : Refusal) (n : ℕ). Err (misread r n))
    (number_apart m.refusal m'.refusal (ap (λ (o : reading.Reading). o.number) e)) (ap (λ (o : reading.Reading). o.at) e)
