-- After i turns what is joined passes where the first i samples do. Assumes nothing.
use Rattle.std.proofs.Common.{ℕ, ◌≡◌, ◌+◌, ◌*◌}
use Rattle.laws.specs.Scan.{all_below}
use Rattle.samples.specs.Samples.{sample_ok}
use Rattle.y4m_rules.specs.Frames.{sample_at}
use Rattle.y4m_frame.proofs.bytes.plane_ok.Given as goal

abbrev pub invariant-loop-i : goal.invariant-loop-i
invariant-loop-i l = sample_ok l.all ≡ all_below (λ (k : ℕ). sample_ok (sample_at l.s (l.from + 2 * k))) l.i
