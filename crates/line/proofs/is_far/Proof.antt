-- `line::is_far` meets its contract: every difference of two 16-bit numbers fits 32 bits. Assumes nothing.
use mir.Syntax.{w32}
use Rattle.laws.proofs.Widths.{back}
use Rattle.line.specs.Row.{far}
use Rattle.line.proofs.Rows.{widened, plain, difference, either_way}
use Rattle.line.proofs.is_far.Statement.{statement}
use Rattle.line.proofs.is_far.Tie as tie

returns : tie.Need-returns
unfolding far
returns c = rw (plain c.ranges.a, plain c.ranges.b, back w32 _ (difference c.ranges.a c.ranges.b)) (either_way _)

pub is_far_spec : {M : Type 1} → statement M
is_far_spec =
    tie.close
    (tie.spec (λ c. widened c.ranges.a) (λ c. widened c.ranges.b)
    (λ c. rw (plain c.ranges.a, plain c.ranges.b) (difference c.ranges.a c.ranges.b)) returns)
