-- After i turns the first i samples are there. Assumes nothing.
use Rattle.std.proofs.Common.{ℕ, ◌+◌, ◌*◌}
use Rattle.laws.proofs.Fill.{Upto}
use Rattle.y4m_rules.specs.Frames.{sample_at}
use Rattle.y4m_frame.proofs.bytes.read_plane.Given as goal

abbrev pub invariant-loop-i : goal.invariant-loop-i
invariant-loop-i l = Upto 0 (λ (k : ℕ). sample_at l.s (l.from + 2 * k)) l.fn.plane l.plane l.i
