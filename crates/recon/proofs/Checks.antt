-- What the checks of the two calls tell where they find nothing.
--     lent     into a block: a side, and lengths, that pass
--     fitting    into a plane: the block fits the plane, counted in the component's samples
-- Assumes nothing.
use Rattle.std.specs.Prelude.{Ok}
use Prim.Native.Nat.{ℕ, ◌+◌, ◌*◌, ◌/◌, ◌≤◌, ◌<◌}
use mathlib.Core.Path.{◌≡◌}
use mathlib.Core.Bool.{true}
use mathlib.Core.List.{List, [], ◌∷◌}
use native.Mathlib.Nat.{mul-le-mul_right, mul_comm}
use native.Mathlib.Omega.{arith}
use borrow.Author.Tests.{eqb-true}
use lib.Dec.{eqb}
use lib.IntN.{ℤ}
use lib.ListN.{length}
use Rattle.laws.proofs.Calls.{all_at}
use Rattle.def.specs.Components.{scale_of}
use Rattle.def.specs.declared.Component.{Component}
use Rattle.def.specs.declared.Component.TheVariants.{Luma, Chroma}
use Rattle.def.proofs.Blocks.{blocked}
use Rattle.def.proofs.Ladders.{passes}
use Rattle.def.proofs.Sides.{component_side}
use Rattle.def.proofs.Sizes.{sized}
use Rattle.samples.specs.Samples.{samples_ok}
use Rattle.recon.specs.Recon.{lengths_ok, block_check}
use Rattle.recon.specs.Plane.{Fitting, block_lengths_ok, plane_check}

pub record Lent (side : ℕ) (pred : List ℕ) (coef rec : ℕ) : Type 0 where
  pub most : side ≤ 64
  pub pred_long : length pred ≡ side * side
  pub coef_long : coef ≡ side * side
  pub rec_long : rec ≡ side * side
  pub good : samples_ok pred ≡ true

pub lent : (side : ℕ) (pred : List ℕ) (coef rec : ℕ) → block_check side pred coef rec ≡ Ok tt → Lent side pred coef rec
unfolding block_check lengths_ok
lent side pred coef rec e =
    let first = passes _ _ _ e in
    let tests = eqb (length pred) (side * side) ∷ eqb coef (side * side) ∷ eqb rec (side * side) ∷ [] in
    let second = passes _ _ _ first.rest in
    let long = second.holds in
    record {
      most = (component_side side first.holds).most;
      pred_long = eqb-true _ _ (all_at tests 0 long);
      coef_long = eqb-true _ _ (all_at tests 1 long);
      rec_long = eqb-true _ _ (all_at tests 2 long);
      good = (passes _ _ _ second.rest).holds;
    }

-- a block inside a picture, counted in a component of that picture
record Inside (k w h x y side : ℕ) : Type 0 where
  some : 0 < w / k
  across : x / k + side / k ≤ w / k
  down : y / k + side / k ≤ h / k
  rows : y / k + side / k ≤ 4096

inside : (c : Component) (w h x y side : ℕ) → 4 ≤ w → h ≤ 4096 → x + side ≤ w → y + side ≤ h → Inside (scale_of c) w h x y side
inside Luma w h x y side a b p q = record { some = omega arith; across = omega arith; down = omega arith; rows = omega arith }
inside Chroma w h x y side a b p q = record { some = omega arith; across = omega arith; down = omega arith; rows = omega arith }

-- r rows, of h that a plane has
rows_below : (r w h l : ℕ) → r ≤ h → l ≡ w * h → r * w ≤ l
rows_below r w h l p e = omega (arith, mul-le-mul_right w p, mul_comm h w)

pub fitting : (c : Component) (w h x y side : ℕ) (pred : List ℕ) (coef : List ℤ) (rec : List ℕ) → plane_check c w h x y side pred (length coef) (length rec) ≡ Ok tt
    → Fitting (w / scale_of c) (x / scale_of c) (y / scale_of c) (side / scale_of c) pred coef rec
unfolding plane_check block_lengths_ok
fitting c w h x y side pred coef rec e =
    let size = passes _ _ _ e in
    let plane = passes _ _ _ size.rest in
    let block = passes _ _ _ plane.rest in
    let lengths = passes _ _ _ block.rest in
    let long = lengths.holds in
    let n = side / scale_of c in
    let tests = eqb (length pred) (n * n) ∷ eqb (length coef) (n * n) ∷ [] in
    let s = sized w h size.holds in
    let b = blocked w h x y side block.holds in
    let i = inside c w h x y side s.some_wide s.high b.inside b.inside_down in
    record {
      some = i.some;
      across = i.across;
      down = rows_below _ _ _ _ i.down (eqb-true _ _ plane.holds);
      rows = i.rows;
      pred_long = eqb-true _ _ (all_at tests 0 long);
      coef_long = eqb-true _ _ (all_at tests 1 long);
      good = (passes _ _ _ lengths.rest).holds;
    }
