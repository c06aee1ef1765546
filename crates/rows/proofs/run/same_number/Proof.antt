-- `rows::run::same_number` meets its contract: numbers are the same where their bits are. Assumes nothing.
use mir.Syntax.{w16}
use Rattle.line.proofs.Rows.{same_bits}
use Rattle.rows.proofs.run.same_number.Statement.{statement}
use Rattle.rows.proofs.run.same_number.Tie as tie

pub same_number_spec : {M : Type 1} → statement M
same_number_spec = tie.close (tie.spec (λ c. same_bits w16 _ _ c.ranges.a c.ranges.b))
