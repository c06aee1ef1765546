-- Laws of a row that is put: its samples are small, and one more or a part more is stored.
--     part_ok, run_small, small_part, small_first, small_second, small_less    the samples
--     first_more, first_part    what is stored
-- Assumes nothing.
use Rattle.std.proofs.Common.{◌≡◌, ℕ, ◌+◌, ◌-◌, ◌<◌, ◌≤◌, true, List, length, get_or, take, drop, set, ap, ◌∙◌, subst, add-zero, zero-add, arith, length-drop, length-take, get_or-drop, get_or-take, leb-true}
use Rattle.laws.specs.Plane.{with_row}
use Rattle.laws.proofs.Parts.{rowed_part, scan_alike}
use Rattle.laws.proofs.Planes.{Rowed, rowed_more}
use Rattle.laws.proofs.Scans.{scan_at}
use Rattle.decoder.specs.Face.{sample_ok, samples_ok}
use Rattle.ward_rows.specs.Samples.{run_ok, Small}

-- the scan of a part is that of the places it stands at
pub part_ok : (p : List ℕ) (from n : ℕ) → from + n ≤ length p → samples_ok (take (from + n - from) (drop from p)) ≡ run_ok p from n
unfolding samples_ok run_ok
part_ok p from n h =
    rw (e, long) (scan_alike _ _ n (λ k l. ap sample_ok (get_or-take n (drop from p) k 0 l ∙ get_or-drop from p k 0)))
  where
    e : from + n - from ≡ n
    e = omega arith

    long : length (take n (drop from p)) ≡ n
    long = simp (length-take, length-drop) (omega arith)

-- where it passes, each sample is at most 1023
pub run_small : (p : List ℕ) (from n : ℕ) → run_ok p from n ≡ true → Small p from n
unfolding run_ok
run_small p from n e j l = leb-true (get_or p (from + j) 0) 1023 (scan_at (λ (i : ℕ). sample_ok (get_or p (from + i) 0)) n j l e)

-- one store more, from the first place on
pub first_more : (g : ℕ → ℕ) (l₀ l : List ℕ) (c v : ℕ) → c < length l₀ → v ≡ g c → Rowed 0 0 g l₀ l c → Rowed 0 0 g l₀ (set l c v) (c + 1)
first_more g l₀ l c v h e r = subst (λ (z : ℕ). Rowed 0 0 g l₀ (set l z v) (c + 1)) (zero-add c) (rowed_more 0 0 g l₀ l c v (omega arith) e r)

-- and a part more
pub first_part : (g : ℕ → ℕ) (l₀ l : List ℕ) (c m : ℕ) (f : ℕ → ℕ) → c + m ≤ length l₀ → ((j : ℕ) → j < m → f j ≡ g (c + j)) → Rowed 0 0 g l₀ l c → Rowed 0 0 g l₀ (with_row 0 c m f l) (c + m)
first_part g l₀ l c m f h s r = subst (λ (z : ℕ). Rowed 0 0 g l₀ (with_row 0 z m f l) (c + m)) (zero-add c) (rowed_part 0 0 g l₀ l c m f (omega arith) s r)

-- some of the samples of a run that is small
pub small_part : (p : List ℕ) (from n a m : ℕ) → a + m ≤ n → Small p from n → Small p (from + a) m
small_part p from n a m h s j l = subst (λ (k : ℕ). get_or p k 0 ≤ 1023) (e j) (s (a + j) (omega arith)) where
  e : (j : ℕ) → from + (a + j) ≡ from + a + j
  e j = omega arith

-- two samples that are small
pub small_first : (p : List ℕ) (from : ℕ) → Small p from 2 → get_or p from 0 ≤ 1023
small_first p from s = subst (λ (k : ℕ). get_or p k 0 ≤ 1023) (add-zero from) (s 0 (omega arith))

pub small_second : (p : List ℕ) (from : ℕ) → Small p from 2 → get_or p (from + 1) 0 ≤ 1023
small_second p from s = s 1 (omega arith)

pub small_less : (p : List ℕ) (from n m : ℕ) → m ≤ n → Small p from n → Small p from m
small_less p from n m h s j l = s j (omega arith)
