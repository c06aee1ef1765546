-- A table that is filled from the front: by a loop that puts one entry after the other, and by runs of entries.
--     row_more      a loop's turn
--     row_last      the last entry of a run
--     Filled, filled_row, filled_all     the first n entries are right
-- Assumes nothing.
use mathlib.Core.Path.{◌≡◌, ap, ◌∙◌}
use mathlib.Core.List.{List}
use Prim.Native.Nat.{ℕ, ◌+◌, ◌-◌, ◌≤◌, ◌<◌}
use native.Mathlib.Decide.{dec_lt}
use native.Mathlib.Omega.{arith}
use lib.IntN.{ℤ, pos}
use lib.ListN.{length, get_or, set}
use Rattle.laws.specs.Index.{tabulate}
use Rattle.laws.specs.Plane.{with_row}
use Rattle.laws.proofs.Planes.{Rowed, rowed_more, within_yes, within_low, length_row, get_d_row}
use Rattle.laws.proofs.Tabulate.{is_tabulate}
use Rattle.chroma_qp_check.specs.Pivots.{entry_qp}

-- l' is l with what is held as x put at the next place, k
pub row_more : (a : ℕ) (h : ℕ → ℕ) (l₀ l l' : List ℤ) (c x k : ℕ) → a + c < length l₀ → k ≡ a + c → l' ≡ set l k (entry_qp x) → x ≡ h c
    → Rowed (pos 0) a (λ (k : ℕ). entry_qp (h k)) l₀ l c → Rowed (pos 0) a (λ (k : ℕ). entry_qp (h k)) l₀ l' (c + 1)
row_more a h l₀ l l' c x k p q e f r = rw (e, q) (rowed_more (pos 0) a (λ (k : ℕ). entry_qp (h k)) l₀ l c (entry_qp x) p (ap entry_qp f) r)

-- l' is l with a run of n entries past place i
pub row_last : (h : ℕ → ℕ) (l l' : List ℤ) (i n : ℕ) → l' ≡ with_row (pos 0) (i + 1) n (λ (k : ℕ). entry_qp (h (k + 1))) l → 0 < n → i + n < length l → get_or l' (i + n) (pos 0) ≡ entry_qp (h n)
row_last h l l' i n e some p =
    let q : i + n - (i + 1) + 1 ≡ n = omega arith in
    ap (λ (l : List ℤ). get_or l (i + n) (pos 0)) e
    ∙ get_d_row (pos 0) (i + 1) n (λ (k : ℕ). entry_qp (h (k + 1))) l (i + n) p
    ∙ rw (within_yes (i + 1) n (i + n) (omega arith) (omega arith), q)

pub record Filled (f : ℕ → ℤ) (l : List ℤ) (n : ℕ) : Type 0 where
  pub long : length l ≡ 70
  pub right : (k : ℕ) → k < n → get_or l k (pos 0) ≡ f k

module _ (f : ℕ → ℤ) where
  pub filled_none : (l : List ℤ) → length l ≡ 70 → Filled f l 0
  filled_none l e = record { long = e; right = λ k h. absurd (none k h) } where
    none : (k : ℕ) → k < 0 → ⊥
    none k h = omega arith

  pub filled_row : (l : List ℤ) (a n : ℕ) (g : ℕ → ℤ) → a + n ≤ 70 → ((c : ℕ) → c < n → g c ≡ f (a + c)) → Filled f l a → Filled f (with_row (pos 0) a n g l) (a + n)
  filled_row l a n g h e r = record { long = length_row (pos 0) a n g l ∙ r.long; right = λ k p. at k p (dec_lt k a) } where
    at : (k : ℕ) → k < a + n → Dec (k < a) → get_or (with_row (pos 0) a n g l) k (pos 0) ≡ f k
    at k p (yes q) = get_d_row (pos 0) a n g l k (omega (arith, r.long)) ∙ rw (within_low a n k q) (r.right k q)
    at k p (no q) =
        get_d_row (pos 0) a n g l k (omega (arith, r.long))
        ∙ rw (within_yes a n k (omega arith) p) (e (k - a) (omega arith) ∙ ap f (omega arith))

  pub filled_all : (l : List ℤ) (n : ℕ) → n ≡ 70 → Filled f l n → l ≡ tabulate 70 f
  filled_all l n e r = is_tabulate f 70 l (pos 0) r.long (λ k p. r.right k (omega arith))
