-- The eight answers of availability in one byte, and the rule of each call in numbers alone.
-- Assumes nothing: these are definitions.
use Rattle.std.specs.Prelude.{ℕ, ◌+◌, ◌*◌}
use Rattle.def.specs.Word.{bit}
use Rattle.avail.specs.declared.Neighbours.{Neighbours}
use Rattle.avail.specs.Around.{Input}
use Rattle.avail.specs.Calls as calls

-- a bit a neighbour, `up` the lowest: 1 up, 2 left, 4 right, 8 up-left, 16 up-right, 32 low-left, 64 low-right, 128 right-up
abbrev pub byte_of : Neighbours → ℕ
byte_of n =
    bit n.up
    + 2 * (bit n.left
    + 2 * (bit n.right
    + 2 * (bit n.up_left
    + 2 * (bit n.up_right
    + 2 * (bit n.low_left
    + 2 * (bit n.low_right
    + 2 * bit n.right_up))))))

pub record Outcome : Type 0 where
  pub number : ℕ
  pub neighbours : ℕ

-- the reading of an answer, its neighbours in one byte
abbrev pub masked_of : calls.Reading → Outcome
masked_of r = record { number = r.number; neighbours = byte_of r.neighbours }

abbrev pub intra_outcome : Input → Outcome
intra_outcome i = masked_of (calls.intra_outcome i).reading

abbrev pub inter_outcome : Input → Outcome
inter_outcome i = masked_of (calls.inter_outcome i).reading
