-- What the tests of number 8 tell.
--     by_block_side, by_component_side    a side that passes, by its cases
--     blocked, placed    a block and a unit that pass
--     ends_inside    the test of a block's end by its start
--     below_side    the bits below a side are the remainder by it
-- Assumes nothing.
use Prim.Native.Nat.{ℕ, ◌+◌, ◌-◌, ◌/◌, ◌%◌, ◌≤◌, ◌<◌}
use mathlib.Core.Path.{◌≡◌, refl, sym, ◌∙◌}
use mathlib.Core.Bool.{true}
use mathlib.Core.List.{List, [], ◌∷◌}
use native.Mathlib.Omega.{arith}
use native.Mathlib.Decide.{dec_le}
use lib.Bits.{bit_and, and_mask}
use lib.Dec.{leb, ltb}
use borrow.Author.Tests.{leb-true, ltb-true, eqb-true, le-leb, lt-leb}
use Rattle.laws.proofs.Calls.{all_at, AtEach, one_of}
use Rattle.def.specs.Blocks.{block_side_ok, component_side_ok, block_ok, block_tests, unit_ok}

abbrev pub block_sides : List ℕ
block_sides = 4 ∷ 8 ∷ 16 ∷ 32 ∷ 64 ∷ []

-- what holds at each of a block's sides holds of one that passes
pub by_block_side : (P : ℕ → Type 0) → AtEach P block_sides → (side : ℕ) → block_side_ok side ≡ true → P side
unfolding block_side_ok
by_block_side P h side e = one_of P side block_sides h e

pub by_component_side : (P : ℕ → Type 0) → AtEach P (2 ∷ block_sides) → (side : ℕ) → component_side_ok side ≡ true → P side
unfolding component_side_ok
by_component_side P h side e = one_of P side (2 ∷ block_sides) h e

pub record Side (side : ℕ) : Type 0 where
  pub least : 4 ≤ side
  pub most : side ≤ 64
  pub units : side % 4 ≡ 0

pub block_side : (side : ℕ) → block_side_ok side ≡ true → Side side
block_side =
    by_block_side Side (
      record { least = omega arith; most = omega arith; units = refl },
      (
        record { least = omega arith; most = omega arith; units = refl },
        (
          record { least = omega arith; most = omega arith; units = refl },
          (
            record { least = omega arith; most = omega arith; units = refl },
            (record { least = omega arith; most = omega arith; units = refl }, tt),
          ),
        ),
      ),
    )

-- a side is a power of two
pub below_side : (x side : ℕ) → block_side_ok side ≡ true → bit_and x (side - 1) ≡ x % side
below_side x = by_block_side (λ side. bit_and x (side - 1) ≡ x % side) (and_mask x 2, (and_mask x 3, (and_mask x 4, (and_mask x 5, (and_mask x 6, tt)))))

pub record Blocked (w h x y side : ℕ) : Type 0 where
  pub side_ok : block_side_ok side ≡ true
  pub least : 4 ≤ side
  pub most : side ≤ 64
  pub by_four : side % 4 ≡ 0
  pub column : x % side ≡ 0
  pub row : y % side ≡ 0
  pub inside : x + side ≤ w
  pub inside_down : y + side ≤ h

pub blocked : (w h x y side : ℕ) → block_ok w h x y side ≡ true → Blocked w h x y side
unfolding block_ok
blocked w h x y side e =
    let s : block_side_ok side ≡ true = all_at (block_tests w h x y side) 0 e in
    record {
      side_ok = s;
      least = (block_side side s).least;
      most = (block_side side s).most;
      by_four = (block_side side s).units;
      column = eqb-true (x % side) 0 (all_at (block_tests w h x y side) 1 e);
      row = eqb-true (y % side) 0 (all_at (block_tests w h x y side) 2 e);
      inside = leb-true (x + side) w (all_at (block_tests w h x y side) 3 e);
      inside_down = leb-true (y + side) h (all_at (block_tests w h x y side) 4 e);
    }

pub record Placed (w h x y : ℕ) : Type 0 where
  pub column : x < w / 4
  pub row : y < h / 4

pub placed : (w h x y : ℕ) → unit_ok w h x y ≡ true → Placed w h x y
unfolding unit_ok
placed w h x y e =
    record {
      column = ltb-true x (w / 4) (all_at (ltb x (w / 4) ∷ ltb y (h / 4) ∷ []) 0 e);
      row = ltb-true y (h / 4) (all_at (ltb x (w / 4) ∷ ltb y (h / 4) ∷ []) 1 e);
    }

-- a block ends inside where it starts no later than that
pub ends_inside : (x side w : ℕ) → side ≤ w → leb x (w - side) ≡ leb (x + side) w
ends_inside x side w h = go (dec_le (x + side) w) where
  go : Dec (x + side ≤ w) → leb x (w - side) ≡ leb (x + side) w
  go (yes p) = le-leb x (w - side) (omega arith) ∙ sym (le-leb (x + side) w p)
  go (no p) = lt-leb x (w - side) (omega arith) ∙ sym (lt-leb (x + side) w (omega arith))
