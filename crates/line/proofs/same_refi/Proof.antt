-- `line::same_refi` meets its contract: bytes are the same where their bits are. Assumes nothing.
use mir.Syntax.{w8}
use Rattle.line.proofs.Rows.{same_bits}
use Rattle.line.proofs.same_refi.Statement.{statement}
use Rattle.line.proofs.same_refi.Tie as tie

pub same_refi_spec : {M : Type 1} → statement M
same_refi_spec = tie.close (tie.spec (λ c. same_bits w8 _ _ c.ranges.a c.ranges.b))
