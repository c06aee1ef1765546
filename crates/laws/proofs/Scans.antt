-- A loop that tests each place in turn and stops at the first that fails.
use mathlib.Core.Path.{◌≡◌, refl, sym, ap, ◌∙◌}
use mathlib.Core.Bool.{Bool, true, false, ◌&&◌}
use Prim.Native.Nat.{ℕ, zero, suc, ◌+◌, ◌<◌}
use native.Mathlib.Nat.{not-suc-le-zero}
use native.Mathlib.Numerals.{add-one}
use native.Mathlib.Decide.{dec_lt}
use native.Mathlib.Omega.{arith}
use Rattle.laws.specs.Scan.{all_below}
use Rattle.laws.proofs.Bools.{and_false}

module _ (f : ℕ → Bool) where
  pub scan_none : all_below f 0 ≡ true
  unfolding all_below
  scan_none = refl

  pub scan_more : (n : ℕ) → all_below f n ≡ true → f n ≡ true → all_below f (n + 1) ≡ true
  unfolding all_below
  scan_more n p q = rw add-one (simp (p, q))

  pub scan_stop : (n i : ℕ) → i < n → f i ≡ false → all_below f n ≡ false
  unfolding all_below
  scan_stop zero i h q = absurd (not-suc-le-zero h)
  scan_stop (suc n) i h q = go (dec_lt i n) (λ p. scan_stop n i p q) where
    go : Dec (i < n) → (i < n → all_below f n ≡ false) → (all_below f n && f n) ≡ false
    go (yes p) r = rw (r p)
    go (no p) r = let e : i ≡ n = omega arith in and_false (all_below f n) (f n) (ap f (sym e) ∙ q)

  pub scan_at : (n i : ℕ) → i < n → all_below f n ≡ true → f i ≡ true
  scan_at n i h p = go (f i) refl where
    go : (b : Bool) → f i ≡ b → f i ≡ true
    go true e = e
    go false e = cc (scan_stop n i h e)
