-- The call that sets a unit's motion and references. The map may be any: its bits are set as `edited_map` says.
-- Assumes nothing: these are definitions.
use Rattle.std.specs.Prelude.{ℕ, ◌+◌, ◌*◌, ◌/◌, List, ℤ, length, set}
use Rattle.def.specs.Answers.{after_checks}
use Rattle.def.specs.Refusals.{number_of}
use Rattle.def.specs.declared.Refusal.{Refusal}
use Rattle.def.specs.Answers.{Answer}
use Rattle.line.specs.declared.Motion.{Motion}
use Rattle.rows_rules.specs.Checks.{check_unit}
use Rattle.rows_rules.specs.Rule.{edited_map}

pub record Input : Type 0 where
  pub w : ℕ
  pub h : ℕ
  pub x : ℕ
  pub y : ℕ
  pub moved : Motion
  pub words : List ℕ
  pub motion : List ℤ
  pub refs : List ℤ
  pub rows : List ℕ

pub record Outcome : Type 0 where
  pub number : ℕ
  pub motion : List ℤ
  pub refs : List ℤ
  pub rows : List ℕ

-- the four numbers of unit a, and its two references
abbrev pub with_motion : ℕ → Motion → List ℤ → List ℤ
with_motion a m l = set (set (set (set l (4 * a) m.x0) (4 * a + 1) m.y0) (4 * a + 2) m.x1) (4 * a + 3) m.y1

abbrev pub with_refs : ℕ → Motion → List ℤ → List ℤ
with_refs a m l = set (set l (2 * a) m.refi0) (2 * a + 1) m.refi1

abbrev pub check : Input → Answer
check i = check_unit i.w i.h (length i.words) (length i.motion) (length i.refs) (length i.rows) i.x i.y

abbrev pub refused : Input → Refusal → Outcome
refused i r = record { number = number_of r; motion = i.motion; refs = i.refs; rows = i.rows }

-- the unit's place in the maps
abbrev pub place : Input → ℕ
place i = i.y * (i.w / 4) + i.x

abbrev pub done : Input → Outcome
done i =
    let motion = with_motion (place i) i.moved i.motion in
    let refs = with_refs (place i) i.moved i.refs in
    record { number = 0; motion = motion; refs = refs; rows = edited_map i.words motion refs (i.w / 4) (place i) i.rows }

unfoldable pub outcome : Input → Outcome
outcome i = after_checks (refused i) (done i) (check i)
