-- The digits so far have come to a number below 10 ^ i. Assumes nothing.
use Rattle.std.proofs.Common.{◌≡◌, ◌<◌, ◌^◌, drop}
use Rattle.sheet_lines.specs.Lines.{value_from}
use Rattle.sheet_lines.proofs.decimal_value.Given as goal

abbrev pub invariant-loop-b : goal.invariant-loop-b
invariant-loop-b l = (l.v < 10 ^ l.b-index) × (value_from 0 l.text ≡ value_from l.v (drop l.b-index l.text))
