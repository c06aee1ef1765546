-- The roots before i are mended, and their changes listed. Assumes nothing.
use mathlib.Core.Path.{◌≡◌}
use Prim.Native.Nat.{◌*◌, ◌/◌}
use lib.ListN.{length, take}
use Rattle.marks_rules.specs.Pictures.{joined}
use Rattle.mend.specs.Changes.{mend_root, changes_of, Listed}
use Rattle.mend.proofs.mend_roots.Given as goal

abbrev pub invariant-loop-i : goal.invariant-loop-i
invariant-loop-i l =
    (length l.out ≡ length l.initial.out)
    × (length l.list ≡ length l.initial.list)
    × (take (1024 * l.i) l.out ≡ joined (mend_root l.splits (l.w / 4) (l.h / 4)) l.i)
    × Listed (changes_of l.splits (l.w / 4) (l.h / 4) l.i) l.initial.list 0 l.list l.count
