-- What the test of samples tells, and when it passes.
--     sample_at_lem    of a list that passes, each sample is at most 1023
--     sample_any    the same at every place, since past the end there is 0
--     one_of_two    either of two samples is one
--     samples_pass    a list each of whose samples is at most 1023 passes
--     joined    two numbers joined bit by bit are a sample where both are
-- Assumes nothing.
use Prim.Native.Nat.{ℕ, ◌≤◌, ◌<◌}
use mathlib.Core.Path.{◌≡◌, refl}
use mathlib.Core.Bool.{Bool, true, false, ◌&&◌}
use mathlib.Core.List.{List}
use native.Mathlib.Decide.{dec_lt}
use native.Mathlib.Omega.{arith}
use borrow.Author.Tests.{leb-true, leb-false, le-leb, lt-leb}
use lib.Bits.{bit_or, or_lt, or_add_and, and_le_l, and_le_r}
use lib.ListN.{length, get_or, get_or-eq_default}
use Rattle.laws.specs.Index.{pick}
use Rattle.laws.proofs.Scans.{scan_at}
use Rattle.laws.proofs.ScanAll.{scan_pass}
use Rattle.samples.specs.Samples.{samples_ok, sample_ok}

pub sample_at_lem : (p : List ℕ) (k : ℕ) → samples_ok p ≡ true → k < length p → get_or p k 0 ≤ 1023
unfolding samples_ok
sample_at_lem p k e h = leb-true (get_or p k 0) 1023 (scan_at (λ (i : ℕ). sample_ok (get_or p i 0)) (length p) k h e)

pub sample_any : (p : List ℕ) (k : ℕ) → samples_ok p ≡ true → get_or p k 0 ≤ 1023
sample_any p k e = go (dec_lt k (length p)) where
  go : Dec (k < length p) → get_or p k 0 ≤ 1023
  go (yes h) = sample_at_lem p k e h
  go (no h) = let out : length p ≤ k = omega arith in omega (arith, get_or-eq_default p 0 out)

pub one_of_two : (b : Bool) (x y : ℕ) → x ≤ 1023 → y ≤ 1023 → pick b x y ≤ 1023
one_of_two true x y p q = p
one_of_two false x y p q = q

pub samples_pass : (p : List ℕ) → ((k : ℕ) → k < length p → get_or p k 0 ≤ 1023) → samples_ok p ≡ true
unfolding samples_ok
samples_pass p f = scan_pass _ (length p) (λ k h. le-leb (get_or p k 0) 1023 (f k h))

-- x | y is at least x and at least y, and has no more bits than the larger
pub joined : (x y : ℕ) → sample_ok (bit_or x y) ≡ (sample_ok x && sample_ok y)
joined x y = go (sample_ok x) (sample_ok y) refl refl where
  go : (a b : Bool) → sample_ok x ≡ a → sample_ok y ≡ b → sample_ok (bit_or x y) ≡ (a && b)
  go true true p q =
      let hx = leb-true x 1023 p in
      let hy = leb-true y 1023 q in
      le-leb (bit_or x y) 1023 (omega (arith, or_lt 10 x y (omega arith) (omega arith)))
  go true false p q = let hy = leb-false y 1023 q in lt-leb (bit_or x y) 1023 (omega (arith, or_add_and x y, and_le_l x y))
  go false b p q = let hx = leb-false x 1023 p in lt-leb (bit_or x y) 1023 (omega (arith, or_add_and x y, and_le_r x y))
