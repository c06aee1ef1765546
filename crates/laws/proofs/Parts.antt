-- A row that is written, and a scan that is made, in parts one after the other.
--     rowed_part    a part more of a row
--     scan_parts    a scan of n + m numbers is one of n and one of the m after them
--     scan_alike    scans whose tests agree
-- Assumes nothing.
use mathlib.Core.Path.{◌≡◌, refl, sym, ap, ◌∙◌}
use mathlib.Core.Bool.{Bool, ◌&&◌, and-true, and_assoc}
use mathlib.Core.List.{List}
use Prim.Native.Nat.{ℕ, zero, suc, ◌+◌, ◌-◌, ◌≤◌, ◌<◌}
use native.Mathlib.Nat.{add-zero, add-suc}
use native.Mathlib.Decide.{dec_lt}
use native.Mathlib.Omega.{arith}
use lib.ListN.{length, get_or, get_or-eq_default}
use Rattle.laws.specs.Plane.{with_row}
use Rattle.laws.specs.Scan.{all_below}
use Rattle.laws.proofs.Planes.{Rowed, get_d_row, length_row, within_yes, within_low, within_high}

module _ {A : Type 0} (d : A) (a : ℕ) (g : ℕ → A) (l₀ l : List A) (c m : ℕ) (f : ℕ → A) (fits : a + (c + m) ≤ length l₀) (same : (j : ℕ) → j < m → f j ≡ g (c + j)) (u : Rowed d a g l₀ l c) where
  after : List A
  after = with_row d (a + c) m f l

  -- a place that the part does not reach
  kept_low : (k : ℕ) → k < a + c → get_or after k d ≡ get_or l k d
  unfolding after
  kept_low k p = get_d_row d (a + c) m f l k (omega (arith, u.long)) ∙ rw (within_low (a + c) m k p)

  kept_high : (k : ℕ) → a + (c + m) ≤ k → Dec (k < length l) → get_or after k d ≡ get_or l k d
  unfolding after
  kept_high k p (yes q) = get_d_row d (a + c) m f l k q ∙ rw (within_high (a + c) m k (omega arith))
  kept_high k p (no q) =
      get_or-eq_default after d (omega (arith, length_row d (a + c) m f l)) ∙ sym (get_or-eq_default l d (omega arith))

  written : (j : ℕ) → j < c + m → Dec (j < c) → get_or after (a + j) d ≡ g j
  unfolding after
  written j p (yes q) = kept_low (a + j) (omega arith) ∙ u.done j q
  written j p (no q) =
      let e : a + j - (a + c) ≡ j - c = omega arith in
      let r : c + (j - c) ≡ j = omega arith in
      get_d_row d (a + c) m f l (a + j) (omega (arith, u.long))
      ∙ rw (within_yes (a + c) m (a + j) (omega arith) (omega arith), e) (same (j - c) (omega arith) ∙ ap g r)

  pub rowed_part : Rowed d a g l₀ (with_row d (a + c) m f l) (c + m)
  unfolding after
  rowed_part =
      record {
        long = length_row d (a + c) m f l ∙ u.long;
        done = λ j p. written j p (dec_lt j c);
        low = λ k p. kept_low k (omega arith) ∙ u.low k p;
        high = λ k p. kept_high k p (dec_lt k (length l)) ∙ u.high k (omega arith);
      }

module _ (f : ℕ → Bool) where
  pub scan_parts : (n m : ℕ) → all_below f (n + m) ≡ (all_below f n && all_below (λ (k : ℕ). f (n + k)) m)
  unfolding all_below
  scan_parts n zero = rw (add-zero n) (sym (and-true (all_below f n)))
  scan_parts n (suc m) =
      rw (add-suc n m) (rw (scan_parts n m) (and_assoc (all_below f n) (all_below (λ (k : ℕ). f (n + k)) m) (f (n + m))))

  pub scan_alike : (g : ℕ → Bool) (n : ℕ) → ((k : ℕ) → k < n → f k ≡ g k) → all_below f n ≡ all_below g n
  unfolding all_below
  scan_alike g zero h = refl
  scan_alike g (suc n) h = rw (scan_alike g n (λ k p. h k (omega arith)), h n (omega arith))
