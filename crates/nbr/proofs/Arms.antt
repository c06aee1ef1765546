-- An arm unit by unit: sample j of unit i is sample i * n + j of the arm.
--     unit_missing, unit_sample    where the unit is not present, and where it is
--     in_picture, unit_in, unit_few    where it is, it lies in the picture and its samples within the plane
-- Assumes nothing.
use Prim.Native.Nat.{ℕ, ◌+◌, ◌*◌, ◌/◌, ◌≤◌, ◌<◌}
use mathlib.Core.Path.{◌≡◌, ◌∙◌, subst}
use mathlib.Core.Bool.{Bool, true, false}
use mathlib.Core.List.{List, [], ◌∷◌}
use native.Mathlib.Nat.{mul-add-div_right, div-eq_of_lt, add-zero, mul-le-mul_right, mul-le-mul}
use native.Mathlib.Omega.{arith}
use borrow.Author.Tests.{ltb-true}
use lib.Dec.{ltb}
use lib.ListN.{length, get_or}
use Rattle.laws.proofs.Calls.{all_at}
use Rattle.laws.proofs.Flat.{next_row}
use Rattle.nbr.specs.declared.Arm.{Arm}
use Rattle.nbr.specs.Gather.{counts}
use Rattle.nbr.specs.Arms.{present_in, arm_at, Within}

unit_of_lem : (i j n : ℕ) → j < n → (i * n + j) / n ≡ i
unit_of_lem i j n p = mul-add-div_right {m = n} (omega arith) i j ∙ rw (div-eq_of_lt p) (add-zero i)

-- a unit that is present lies in the picture
pub in_picture : (a : Arm) (constrained : Bool) (words : List ℕ) (i : ℕ) → present_in a constrained words i ≡ true → i < a.there
unfolding present_in
in_picture a constrained words i e =
    ltb-true i a.there (all_at (ltb i a.there ∷ counts constrained (get_or words (a.word + i * a.next) 0) ∷ []) 0 e)

module _ (a : Arm) (n : ℕ) (constrained : Bool) (plane words : List ℕ) (i j : ℕ) (p : j < n) where
  pub unit_missing : present_in a constrained words i ≡ false → arm_at a n constrained plane words (i * n + j) ≡ 512
  unfolding arm_at
  unit_missing e = rw (unit_of_lem i j n p) (rw e)

  pub unit_sample : present_in a constrained words i ≡ true → arm_at a n constrained plane words (i * n + j) ≡ get_or plane (a.from + i * n * a.step + j * a.step) 0
  unfolding arm_at
  unit_sample e =
      let q : a.from + (i * n + j) * a.step ≡ a.from + i * n * a.step + j * a.step = omega arith in
      rw (unit_of_lem i j n p) (rw (e, q))

  pub unit_in : Within a n plane words → present_in a constrained words i ≡ true → a.from + i * n * a.step + j * a.step < length plane
  unit_in h e =
      let r : i < a.there = in_picture a constrained words i e in
      let q : a.from + (i * n + j) * a.step ≡ a.from + i * n * a.step + j * a.step = omega arith in
      let k : i * n + j < a.there * n = omega (arith, next_row i n, mul-le-mul_right {m = i + 1} {n = a.there} n (omega arith)) in
      subst (λ (m : ℕ). m < length plane) q (h.samples_in_lem (i * n + j) k)

-- the number of the unit's first sample is small
pub unit_few : (a : Arm) (n : ℕ) (plane words : List ℕ) (constrained : Bool) (i : ℕ) → Within a n plane words → present_in a constrained words i ≡ true → i * n ≤ 4096
unit_few a n plane words constrained i h e =
    let r : i < a.there = in_picture a constrained words i e in
    mul-le-mul {n₂ = 1024} {m₂ = 4} (omega (arith, h.few)) h.small
