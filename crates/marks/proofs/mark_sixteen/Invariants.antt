-- The loop keeps that the parts so far are listed. Assumes nothing.
use mathlib.Core.Path.{◌≡◌}
use Prim.Native.Nat.{◌-◌, ◌/◌}
use lib.ListN.{length}
use Rattle.marks_rules.proofs.Marks.{parts}
use Rattle.marks_rules.specs.Mended.{mend_byte}
use Rattle.marks_rules.specs.Pictures.{joined}
use Rattle.marks.specs.Stored.{Listed}
use Rattle.marks.proofs.mark_sixteen.Given as goal

abbrev pub invariant-loop-part : goal.invariant-loop-part
invariant-loop-part l =
    (length l.out ≡ length l.initial.out)
    × Listed (joined (parts (mend_byte l.bytes (l.w / 4) (l.h / 4)) (l.w / 4) (l.h / 4) (3 - 2) (l.at.x.0 / 4) (l.at.y.0 / 4)) l.part) l.initial.out l.initial.count l.out l.count
