-- The loop keeps that the parts so far are taken. Assumes nothing.
use Rattle.std.specs.Prelude.{Ok}
use Prim.Native.Nat.{◌-◌, ◌/◌}
use lib.ListN.{drop}
use Rattle.bits.specs.Bits.{bits_from}
use Rattle.marks_rules.proofs.Descents.{part_of}
use Rattle.marks_rules.specs.Descent.{descents}
use Rattle.marks.specs.Stored.{Grew}
use Rattle.marks.proofs.grow_thirty_two.Given as goal

abbrev pub invariant-loop-part : goal.invariant-loop-part
invariant-loop-part l =
    Grew (descents (part_of (l.w / 4) (l.h / 4) (3 - 1) (l.at.x.0 / 4) (l.at.y.0 / 4)) l.part (drop l.initial.taken (bits_from l.src l.from l.count))) (bits_from l.src l.from l.count) l.initial.out l.initial.taken l.out (Ok l.taken)
