-- Laws of sizes in a plane and in a run.
--     part_le, part_sum, part_small, across_small    a place in luma samples, in those of a plane
--     length_there, length_none, length_fits    samples of a plane
-- Assumes nothing.
use mathlib.Core.Bool.{Bool, true, false}
use mathlib.Core.Path.{◌≡◌}
use Prim.Native.Nat.{ℕ, ◌+◌, ◌-◌, ◌*◌, ◌/◌, ◌≤◌, ◌<◌}
use native.Mathlib.Nat.{mul-le-mul}
use native.Mathlib.Omega.{arith}
use borrow.Author.Tests.{lt-ltb, le-ltb}
use lib.Dec.{eqb}
use Rattle.laws.specs.Index.{pick}
use Rattle.decoder.specs.Face.{Format}
use Rattle.ward_check.specs.Sizes.{across, planes_of, in_plane, plane_length}
use Rattle.ward_check.specs.declared.Run.{Run}
use Rattle.ward_check.specs.declared.Run.TheVariants.{Full, Preview}

-- ---- in the samples of a plane

pub part_le : (k n m : ℕ) → n ≤ m → in_plane k n ≤ in_plane k m
part_le k n m h = go (eqb k 0) where
  go : (t : Bool) → pick t n (n / 2) ≤ pick t m (m / 2)
  go true = h
  go false = omega arith

-- what starts at a and goes up to b lies below b
pub part_sum : (k a b : ℕ) → a ≤ b → in_plane k a + in_plane k (b - a) ≤ in_plane k b
part_sum k a b h = go (eqb k 0) where
  go : (t : Bool) → pick t a (a / 2) + pick t (b - a) ((b - a) / 2) ≤ pick t b (b / 2)
  go true = omega arith
  go false = omega arith

pub part_small : (k n : ℕ) → in_plane k n ≤ n
part_small k n = go (eqb k 0) where
  go : (t : Bool) → pick t n (n / 2) ≤ n
  go true = omega arith
  go false = omega arith

pub across_small : (run : Run) (n : ℕ) → across run n ≤ n
across_small Full n = omega arith
across_small Preview n = omega arith

-- ---- samples of a plane

pub length_there : (f : Format) (k w h : ℕ) → k < planes_of f → in_plane k w * in_plane k h ≡ plane_length f k w h
unfolding plane_length
length_there f k w h l = rw (lt-ltb k (planes_of f) l)

pub length_none : (f : Format) (k w h : ℕ) → planes_of f ≤ k → 0 ≡ plane_length f k w h
unfolding plane_length
length_none f k w h l = rw (le-ltb k (planes_of f) l)

pub length_fits : (a b k w h : ℕ) → a ≡ in_plane k w → b ≡ in_plane k h → w ≤ 4096 → h ≤ 4096 → a * b ≤ 16777216
length_fits a b k w h e f p q =
    let c = part_small k w in
    let d = part_small k h in
    let x : a ≤ 4096 = omega arith in
    let y : b ≤ 4096 = omega arith in
    omega (arith, mul-le-mul x y)
