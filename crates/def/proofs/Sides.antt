-- Sides of a block in a component: what the test tells, and that a block of the luma plane has such a side in every component.
--     component_side, side_in_component
-- Assumes nothing.
use Prim.Native.Nat.{ℕ, ◌/◌, ◌≤◌}
use mathlib.Core.Path.{◌≡◌, refl}
use mathlib.Core.Bool.{true}
use native.Mathlib.Omega.{arith}
use Rattle.def.specs.Blocks.{block_side_ok, component_side_ok}
use Rattle.def.specs.Components.{scale_of}
use Rattle.def.specs.declared.Component.{Component}
use Rattle.def.specs.declared.Component.TheVariants.{Luma, Chroma}
use Rattle.def.proofs.Blocks.{by_block_side, by_component_side}

pub record ComponentSide (side : ℕ) : Type 0 where
  pub least : 2 ≤ side
  pub most : side ≤ 64

pub component_side : (side : ℕ) → component_side_ok side ≡ true → ComponentSide side
component_side =
    by_component_side ComponentSide (
      record { least = omega arith; most = omega arith },
      (
        record { least = omega arith; most = omega arith },
        (
          record { least = omega arith; most = omega arith },
          (
            record { least = omega arith; most = omega arith },
            (
              record { least = omega arith; most = omega arith },
              (record { least = omega arith; most = omega arith }, tt),
            ),
          ),
        ),
      ),
    )

pub side_in_component : (c : Component) (side : ℕ) → block_side_ok side ≡ true → component_side_ok (side / scale_of c) ≡ true
unfolding component_side_ok
side_in_component Luma = by_block_side (λ (n : ℕ). component_side_ok (n / 1) ≡ true) (refl, (refl, (refl, (refl, (refl, tt)))))
side_in_component Chroma = by_block_side (λ (n : ℕ). component_side_ok (n / 2) ≡ true) (refl, (refl, (refl, (refl, (refl, tt)))))
