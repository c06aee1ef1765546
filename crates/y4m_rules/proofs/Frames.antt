-- The frame that is written is read as what was written.
--     bytes_long, frame_long    lengths
--     plane_back_lem    a plane's bytes among others
--     line_back     the frame line
-- Assumes nothing.
use mathlib.Core.Bool.{true}
use mathlib.Core.List.{List, [], ◌∷◌, ◌++◌}
use mathlib.Core.Path.{◌≡◌, refl, sym, ap, ◌∙◌}
use Prim.Native.Nat.{ℕ, zero, suc, ◌+◌, ◌*◌, ◌<◌}
use native.Mathlib.Nat.{not-suc-le-zero}
use native.Mathlib.Omega.{arith}
use lib.ListN.{length, get_or}
use lib.Seq.{drop_at, get_or-append-add}
use Rattle.laws.proofs.Tabulate.{is_tabulate}
use Rattle.y4m_rules.specs.Words.{frame_line}
use Rattle.y4m_rules.specs.Frames.{bytes_of, sample_at, plane_at, matches, line_ok}

pub bytes_long : (p : List ℕ) → length (bytes_of p) ≡ 2 * length p
unfolding bytes_of
bytes_long [] = refl
bytes_long (x ∷ p) = let e = bytes_long p in omega arith

-- the two bytes of a sample
sample_back : (p post : List ℕ) (k : ℕ) → k < length p → sample_at (bytes_of p ++ post) (2 * k) ≡ get_or p k 0
unfolding bytes_of
sample_back [] post k h = absurd (not-suc-le-zero h)
sample_back (x ∷ p) post zero h = omega arith
sample_back (x ∷ p) post (suc k) h =
    let e : 2 * suc k ≡ suc (suc (2 * k)) = omega arith in
    let f : 2 * suc k + 1 ≡ suc (suc (2 * k + 1)) = omega arith in
    rw (f, e) (sample_back p post k (omega arith))

pub plane_back_lem : (pre p post : List ℕ) (at n : ℕ) → at ≡ length pre → n ≡ length p → plane_at (pre ++ (bytes_of p ++ post)) at n ≡ p
plane_back_lem pre p post at n e f =
    sym (is_tabulate (λ (k : ℕ). sample_at (pre ++ (bytes_of p ++ post)) (at + 2 * k)) n p 0 (sym f) at_k) where
      at_k : (k : ℕ) → k < n → get_or p k 0 ≡ sample_at (pre ++ (bytes_of p ++ post)) (at + 2 * k)
      at_k k h =
          let g : at + 2 * k + 1 ≡ length pre + (2 * k + 1) = omega arith in
          sym (rw (g, e, get_or-append-add pre (bytes_of p ++ post), get_or-append-add pre (bytes_of p ++ post)) (sample_back p post k (omega arith)))

pub line_back : (pre post : List ℕ) (at : ℕ) → at ≡ length pre → line_ok (pre ++ (frame_line ++ post)) at ≡ true
unfolding matches
line_back pre post at e = ap (matches true frame_line) (drop_at pre (frame_line ++ post) at (sym e)) ∙ refl
