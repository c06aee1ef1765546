-- The marks before this one stand there. Assumes nothing.
use Rattle.std.specs.Prelude.{Ok}
use mathlib.Core.Path.{◌≡◌}
use Rattle.marks.specs.Stored.{marks_in}
use Rattle.marks_rules.specs.Mended.{judge}
use Rattle.pack.proofs.write.judge_root.Given as goal

abbrev pub invariant-loop-mark : goal.invariant-loop-mark
invariant-loop-mark l = judge l.bytes (marks_in l.marks l.mark-index) ≡ Ok tt
