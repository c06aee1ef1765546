-- The bytes of the key that were passed stand from the place on. Assumes nothing.
use Rattle.std.proofs.Common.{◌≡◌, ◌+◌, drop}
use Rattle.y4m_rules.specs.Frames.{matches}
use Rattle.y4m_frame.proofs.bytes.agree.Given as goal

abbrev pub invariant-loop-i : goal.invariant-loop-i
invariant-loop-i l = matches l.short l.key (drop l.at l.s) ≡ matches l.short (drop l.i l.key) (drop (l.at + l.i) l.s)
