-- A keep map of zeros keeps no unit, so that the planes are those of filtering without marks, by both engines.
-- Assumes nothing.
use Rattle.std.specs.Prelude.{Ok}
use Prim.Native.Nat.{◌/◌}
use mathlib.Core.Path.{◌≡◌, ◌∙◌}
use Rattle.split.specs.Edges.{vertical, horizontal}
use Rattle.df_check.proofs.Passed.{passed}
use Rattle.df_rules.proofs.Planes.{finished_unmarked_lem, zeros_unkept}
use Rattle.df_laws.specs.Bands.{Plane, component_of, mapped_as, plane_in, plane_after}
use Rattle.df.specs.Deblock.{Input, checked, check, pass_edges, maps_of, outcome}
use Rattle.df_laws.specs.Unmarked.{Zeros, plain, Unmarked}
use Rattle.df_laws.proofs.Joined.{joined}
use Rattle.df_laws.proofs.Moved.{after}
use Rattle.df_laws.proofs.Parted.{lengths}

pub unmarked : (i : Input) → check i ≡ Ok tt → Zeros i → Unmarked i
unmarked i fine zeros = record { whole = whole; by_bands = λ acc x. (joined i (passed (checked i) fine).size (lengths i fine) acc).planes x ∙ whole x } where
  whole : (x : Plane) → plane_after x (outcome i) ≡ plain i x
  whole x =
      after i fine x
      ∙ finished_unmarked_lem (maps_of i) i.strengths (mapped_as x i) (component_of x) (i.w / 4) (pass_edges vertical i) (pass_edges horizontal i) (plane_in x i) (zeros_unkept (maps_of i) zeros)
