-- Whose turn it is: the order of the rows, Y, then U, then V, top first.
-- Assumes nothing: these are definitions.
use Rattle.std.specs.Prelude.{◌+◌, ltb}
use Rattle.laws.specs.Index.{pick}
use Rattle.ward_check.specs.Sizes.{rows_of}
use Rattle.ward_check.specs.declared.Run.{Run}
use Rattle.ward_check.specs.declared.Window.{Window}
use Rattle.ward.specs.declared.Turn.{Turn}

-- a run starts at the top of Y
abbrev pub first_turn : Run → Turn
first_turn run = record { run = run; plane = 0; row = 0 }

-- the next row of the plane, or the top of the next plane
unfoldable pub next_turn : Window → Turn → Turn
next_turn c t =
    pick (ltb (t.row + 1) (rows_of t.run c t.plane))
    (record { run = t.run; plane = t.plane; row = t.row + 1 })
    (record { run = t.run; plane = t.plane + 1; row = 0 })
