-- The bytes of the marks before this one are put. Assumes nothing.
use mathlib.Core.Path.{◌≡◌}
use lib.ListN.{length}
use Rattle.marks.specs.Stored.{marks_in}
use Rattle.marks_rules.specs.Marks.{put_all}
use Rattle.mend.proofs.put_marks.Given as goal

abbrev pub invariant-loop-mark : goal.invariant-loop-mark
invariant-loop-mark l = (length l.out ≡ 1024) × (l.out ≡ put_all (marks_in l.marks l.mark-index) l.initial.out)
