-- `row::same_ref` meets its contract: bytes are the same where their bits are. Assumes nothing.
use mir.Syntax.{w8}
use Rattle.line.proofs.Rows.{same_bits}
use Rattle.row.proofs.same_ref.Statement.{statement}
use Rattle.row.proofs.same_ref.Tie as tie

pub same_ref_spec : {M : Type 1} → statement M
same_ref_spec = tie.close (tie.spec (λ c. same_bits w8 _ _ c.ranges.a c.ranges.b))
