-- Where the places of QP 0 and QP 51 in a table lie 51 apart, those between follow one another.
-- Assumes nothing.
use Prim.Native.Nat.{ℕ, suc, ◌+◌, ◌-◌, ◌≤◌, ◌<◌}
use mathlib.Core.Path.{◌≡◌, sym, ap, ◌∙◌}
use mathlib.Core.Bool.{cond}
use mathlib.Core.List.{List}
use native.Mathlib.Decide.{dec_lt}
use native.Mathlib.Omega.{arith}
use borrow.Author.Tests.{lt-ltb, le-ltb}
use lib.IntN.{ℤ, pos, negsuc, ◌+ℤ◌}
use lib.ListN.{get_or}
use Rattle.laws.proofs.Signs.{by_lt}
use Rattle.laws.proofs.Tabulate.{length_tabulate, get_d_tabulate, is_tabulate}
use Rattle.strength.specs.ChromaQp.{index_of, mapped_z, mapped, mapped_qps, held_qp, straight_qps}
use Rattle.strength.proofs.ChromaQp.{held_from, index_low, index_high, index_plain, index_short}

-- a sum without a sign: 12 more, and 69 at most
plain : (n : ℕ) → n ≤ 57 → held_from (pos n) ≡ n + 12
plain n few = sym (index_plain n (le-ltb 57 n few))

over : (n : ℕ) → 57 < n → held_from (pos n) ≡ 69
over n many = sym (index_high (pos n) (lt-ltb 57 n many))

-- a sum below 0
short : (k : ℕ) → k ≤ 11 → held_from (negsuc k) ≡ 12 - suc k
short k few = sym (index_short k few)

under : (k : ℕ) → 11 < k → held_from (negsuc k) ≡ 0
under k many = sym (index_low (negsuc k) (lt-ltb 11 k many))

few_below : (k : ℕ) → held_from (negsuc k) ≤ 12
few_below k = at (dec_lt 11 k) where
  at : Dec (11 < k) → held_from (negsuc k) ≤ 12
  at (yes h) = omega (arith, under k h)
  at (no h) = omega (arith, short k (omega arith))

-- an offset that is not below 0
up : (m qp : ℕ) → qp ≤ 51 → held_from (pos (51 + m)) ≡ held_from (pos (0 + m)) + 51 → held_from (pos (qp + m)) ≡ held_from (pos (0 + m)) + qp
up m qp most apart = at (dec_lt 57 (51 + m)) (dec_lt 57 m) where
  at : Dec (57 < 51 + m) → Dec (57 < m) → held_from (pos (qp + m)) ≡ held_from (pos (0 + m)) + qp
  at (yes h) (yes k) = absurd (omega (arith, over (51 + m) h, over (0 + m) (omega arith), apart))
  at (yes h) (no k) = absurd (omega (arith, over (51 + m) h, plain (0 + m) (omega arith), apart))
  at (no h) k = omega (arith, plain (qp + m) (omega arith), plain (0 + m) (omega arith))

-- one below 0, of which the sums are held from 12 below on
fall : (m qp : ℕ) → m ≤ 11 → qp ≤ 51 → held_from (pos qp +ℤ negsuc m) ≡ (12 + qp) - suc m
fall m qp few most = by_lt (λ t. held_from (cond t (negsuc (suc m - suc qp)) (pos (qp - suc m))) ≡ (12 + qp) - suc m) qp (suc m)
    (λ h. omega (arith, short (suc m - suc qp) (omega arith))) (λ h. omega (arith, plain (qp - suc m) (omega arith)))

far : (m : ℕ) → 11 < m → held_from (pos 51 +ℤ negsuc m) < 51
far m many = by_lt (λ t. held_from (cond t (negsuc (suc m - 52)) (pos (51 - suc m))) < 51) 51 (suc m)
    (λ h. omega (arith, few_below (suc m - 52))) (λ h. omega (arith, plain (51 - suc m) (omega arith)))

down : (m qp : ℕ) → qp ≤ 51 → held_from (pos 51 +ℤ negsuc m) ≡ held_from (pos 0 +ℤ negsuc m) + 51 → held_from (pos qp +ℤ negsuc m) ≡ held_from (pos 0 +ℤ negsuc m) + qp
down m qp most apart = at (dec_lt 11 m) where
  at : Dec (11 < m) → held_from (pos qp +ℤ negsuc m) ≡ held_from (pos 0 +ℤ negsuc m) + qp
  at (yes h) = absurd (omega (arith, far m h, apart))
  at (no h) = omega (arith, fall m qp (omega arith) most, fall m 0 (omega arith) (omega arith))

pub straight : (offset : ℤ) (qp : ℕ) → qp ≤ 51 → index_of offset 51 ≡ index_of offset 0 + 51 → index_of offset qp ≡ index_of offset 0 + qp
unfolding index_of
straight (pos m) qp most apart = up m qp most apart
straight (negsuc m) qp most apart = down m qp most apart

-- so the row by places is that by sums
pub straight_row : (table : List ℤ) (offset : ℤ) → index_of offset 51 ≡ index_of offset 0 + 51 → straight_qps table (index_of offset 0) ≡ mapped_qps table offset
unfolding mapped_z
straight_row table offset apart =
    is_tabulate (mapped table offset) 52 (straight_qps table (index_of offset 0)) 0 (length_tabulate _ 52)
    (λ k less. get_d_tabulate _ 52 k 0 less ∙ ap (λ (i : ℕ). held_qp (get_or table i (pos 0))) (sym (straight offset k (omega arith) apart)))
