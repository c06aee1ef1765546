-- A block of the lent prediction's plane, counted in a component: it lies in the plane.
-- Assumes nothing.
use Prim.Native.Nat.{ℕ, ◌+◌, ◌/◌, ◌≤◌}
use mathlib.Core.Path.{◌≡◌}
use mathlib.Core.Bool.{true}
use mathlib.Core.List.{List}
use native.Mathlib.Nat.{mul-le-mul_right, mul_comm}
use native.Mathlib.Omega.{arith}
use lib.ListN.{length}
use Rattle.def.specs.Blocks.{block_ok}
use Rattle.def.specs.Components.{scale_of, plane_length}
use Rattle.def.specs.Picture.{size_ok}
use Rattle.def.specs.declared.Component.{Component}
use Rattle.def.specs.declared.Component.TheVariants.{Luma, Chroma}
use Rattle.def.proofs.Blocks.{blocked}
use Rattle.def.proofs.Sides.{component_side, side_in_component}
use Rattle.def.proofs.Sizes.{sized}
use Rattle.nbr.proofs.Sides.{scaled_le}
use Rattle.driver_rules.specs.Records.{sample_count}
use Rattle.driver.specs.Blocks.{Copied}

along : (c : Component) (p side n : ℕ) → p + side ≤ n → p / scale_of c + side / scale_of c ≤ n / scale_of c
along Luma p side n h = omega arith
along Chroma p side n h = omega arith

pub copied : (c : Component) (w h x y side : ℕ) (lent pred : List ℕ) → size_ok w h ≡ true → block_ok w h x y side ≡ true → length lent ≡ plane_length c w h → length pred ≡ sample_count c side
    → Copied (w / scale_of c) (x / scale_of c) (y / scale_of c) (side / scale_of c) lent pred
copied c w h x y side lent pred s b e f =
    let size = sized w h s in
    let k = blocked w h x y side b in
    let m = component_side _ (side_in_component c side k.side_ok) in
    let rows = along c y side h k.inside_down in
    record {
      across = along c x side w k.inside;
      down = omega (arith, mul-le-mul_right (w / scale_of c) rows, mul_comm (h / scale_of c) (w / scale_of c));
      rows = omega (arith, scaled_le c h 4096 size.high);
      some = m.least;
      most = m.most;
      room = f;
    }
