-- Laws of the rows that are given: rows of samples that agree are the same, and planes of which no sample is over 1023 have no row refused for them.
--     row_alike, made_fine
-- Assumes nothing.
use mathlib.Core.Bool.{true}
use mathlib.Core.List.{List}
use mathlib.Core.Path.{◌≡◌, sym, ◌∙◌, subst}
use Prim.Native.Nat.{ℕ, ◌+◌, ◌-◌, ◌*◌, ◌≤◌, ◌<◌}
use native.Mathlib.Decide.{dec_lt}
use native.Mathlib.Omega.{arith}
use borrow.Author.Tests.{le-leb}
use lib.ListN.{length, get_or}
use lib.Seq.{ext_get_or}
use Rattle.laws.specs.Plane.{with_row}
use Rattle.laws.proofs.Planes.{get_d_row, length_row, within_yes, within_high}
use Rattle.laws.proofs.ScanAll.{scan_pass}
use Rattle.ward_check.specs.declared.Run.{Run}
use Rattle.ward_check.specs.declared.Run.TheVariants.{Full, Preview}
use Rattle.ward_rows.specs.Rows.{made_ok}
use Rattle.ward_rows.specs.Samples.{run_ok}

-- rows of samples that agree
pub row_alike : (n : ℕ) (f g : ℕ → ℕ) (l : List ℕ) → ((j : ℕ) → j < n → f j ≡ g j) → with_row 0 0 n f l ≡ with_row 0 0 n g l
row_alike n f g l h =
    ext_get_or 0 _ _ (length_row 0 0 n f l ∙ sym (length_row 0 0 n g l))
    (λ k q. at k (subst (λ (z : ℕ). k < z) (length_row 0 0 n f l) q) (dec_lt k n))
  where
    at : (k : ℕ) → k < length l → Dec (k < n) → get_or (with_row 0 0 n f l) k 0 ≡ get_or (with_row 0 0 n g l) k 0
    at k q (yes p) = rw (get_d_row 0 0 n f l k q, get_d_row 0 0 n g l k q, within_yes 0 n k (omega arith) (omega arith)) (h (k - 0) (omega arith))
    at k q (no p) = rw (get_d_row 0 0 n f l k q, get_d_row 0 0 n g l k q, within_high 0 n k (omega arith))

-- ---- planes of which no sample is over 1023

module _ (p : List ℕ) (s : (k : ℕ) → get_or p k 0 ≤ 1023) where
  run_fine : (from n : ℕ) → run_ok p from n ≡ true
  unfolding run_ok
  run_fine from n = scan_pass _ n (λ j l. le-leb (get_or p (from + j) 0) 1023 (s (from + j)))

  -- no row is refused for them
  pub made_fine : (run : Run) (w x y n r : ℕ) → made_ok run w x y n r p ≡ true
  unfolding made_ok
  made_fine Full w x y n r = run_fine ((y + r) * w + x) n
  made_fine Preview w x y n r = rw (run_fine ((y + 2 * r) * w + x) n, run_fine ((y + (2 * r + 1)) * w + x) n)
