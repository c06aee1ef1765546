-- The call `root_leaves`: the leaves of a root by its number, in raster order. It is `leaves` at the root's place; that of a number which no root has lies
-- below the picture.
-- Assumes nothing: these are definitions.
use Rattle.std.specs.Prelude.{ℕ, ◌*◌, ◌/◌, ◌%◌, List}
use Rattle.def.specs.Picture.{roots_along}
use Rattle.split.specs.LeavesCall as leaves

pub record Input : Type 0 where
  pub w : ℕ
  pub h : ℕ
  pub splits : List ℕ
  pub root : ℕ
  pub out : List ℕ

abbrev pub placed : Input → leaves.Input
placed i = record { w = i.w; h = i.h; splits = i.splits; x = 64 * (i.root % roots_along i.w); y = 64 * (i.root / roots_along i.w); out = i.out }

abbrev pub outcome : Input → leaves.Outcome
outcome i = leaves.outcome (placed i)
