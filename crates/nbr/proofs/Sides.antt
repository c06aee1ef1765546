-- A block along one side of the picture, in units and in the samples of a component. p is the block's place in luma, q the picture's side.
--     four    a block's place is a multiple of 4
--     scaled_le    in a component's samples a length is no longer
--     sided    what follows for both components
--     unit_scaled, unit_sided, unit_sizes    a unit's side
-- Assumes nothing.
use Prim.Native.Nat.{ℕ, ◌+◌, ◌-◌, ◌*◌, ◌/◌, ◌%◌, ◌≤◌, ◌<◌}
use mathlib.Core.Path.{◌≡◌, refl}
use mathlib.Core.Bool.{true}
use native.Mathlib.Nat.{div-le_self}
use native.Mathlib.Omega.{arith}
use Rattle.def.specs.Blocks.{block_side_ok}
use Rattle.def.specs.Components.{scale_of}
use Rattle.def.specs.declared.Component.{Component}
use Rattle.def.specs.declared.Component.TheVariants.{Luma, Chroma}
use Rattle.def.proofs.Blocks.{by_block_side}
use Rattle.nbr.specs.Gather.{unit_side, side_of}

pub four : (p side : ℕ) → block_side_ok side ≡ true → p % side ≡ 0 → p % 4 ≡ 0
four p =
    by_block_side (λ (s : ℕ). p % s ≡ 0 → p % 4 ≡ 0)
    (λ e. e, (λ e. omega arith, (λ e. omega arith, (λ e. omega arith, (λ e. omega arith, tt)))))

pub scaled_le : (c : Component) (n m : ℕ) → n ≤ m → n / scale_of c ≤ m
scaled_le c n m h = omega (arith, div-le_self n (scale_of c))

pub record Sided (c : Component) (p q : ℕ) : Type 0 where
  pub none : p / 4 ≡ 0 → p / scale_of c ≡ 0
  pub some : 0 < p / 4 → 0 < p / scale_of c
  pub inside : p / scale_of c < q / scale_of c
  pub inside_units : p / 4 < q / 4
  -- the unit before the block, and the one k samples on
  pub before : 0 < p / 4 → (p / scale_of c - 1) / unit_side c ≡ p / 4 - 1
  pub along : (k : ℕ) → (p / scale_of c + k) / unit_side c ≡ p / 4 + k / unit_side c
  -- the samples of the units that are left
  pub room : (k : ℕ) → k < (q / 4 - p / 4) * unit_side c → p / scale_of c + k < q / scale_of c

pub sided : (c : Component) (p q : ℕ) → p % 4 ≡ 0 → q % 4 ≡ 0 → p < q → Sided c p q
sided Luma p q e f h =
    record {
      none = λ z. omega arith;
      some = λ z. omega arith;
      inside = omega arith;
      inside_units = omega arith;
      before = λ z. omega arith;
      along = λ k. omega arith;
      room = λ k z. omega arith;
    }
sided Chroma p q e f h =
    record {
      none = λ z. omega arith;
      some = λ z. omega arith;
      inside = omega arith;
      inside_units = omega arith;
      before = λ z. omega arith;
      along = λ k. omega arith;
      room = λ k z. omega arith;
    }

-- a unit's side is 4 in the component's samples
pub unit_scaled : (c : Component) → 4 / scale_of c ≡ unit_side c
unit_scaled Luma = refl
unit_scaled Chroma = refl

-- a unit's side, and the samples of both arms
pub record UnitSided (c : Component) (side : ℕ) : Type 0 where
  pub least : 0 < unit_side c
  pub most : unit_side c ≤ 4
  pub arm_long : side / 2 * unit_side c ≡ 2 * side_of c side

pub unit_sided : (c : Component) (side : ℕ) → side % 4 ≡ 0 → UnitSided c side
unit_sided Luma side e = record { least = omega arith; most = omega arith; arm_long = omega arith }
unit_sided Chroma side e = record { least = omega arith; most = omega arith; arm_long = omega arith }

-- 4, or else 2
pub unit_sizes : (c : Component) (u : ℕ) → u ≡ unit_side c → (u ≡ 4 → ⊥) → u ≡ 2
unit_sizes Luma u e p = absurd (p e)
unit_sizes Chroma u e p = e
