-- A side of a unit, as the code has it and as the rule has it.
-- Assumes nothing: these are definitions.
use Rattle.split.specs.Edges.{Pass, vertical, horizontal}
use Rattle.unit_edits.specs.declared.Side.{Side}
use Rattle.unit_edits.specs.declared.Side.TheVariants.{Left, Top}

abbrev pub pass_of : Side → Pass
pass_of Left = vertical
pass_of Top = horizontal
