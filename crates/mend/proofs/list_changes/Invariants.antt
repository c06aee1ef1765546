-- The changes of the marks before this one are listed. Assumes nothing.
use mathlib.Core.Path.{◌≡◌}
use Prim.Native.Nat.{◌+◌, ◌≤◌}
use lib.ListN.{length}
use Rattle.marks.specs.Stored.{marks_in}
use Rattle.mend.specs.Changes.{changes_in, Listed}
use Rattle.mend.proofs.list_changes.Given as goal

abbrev pub invariant-loop-mark : goal.invariant-loop-mark
invariant-loop-mark l =
    (length l.list ≡ length l.initial.list)
    × Listed (changes_in l.bytes l.root (marks_in l.marks l.mark-index)) l.initial.list l.count l.list l.met
    × (l.met ≤ l.count + l.mark-index)
