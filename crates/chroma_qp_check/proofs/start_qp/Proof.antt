-- `chroma_qp_check::start_qp` meets its contract: 16 and -12 are held as 28 and 0. Assumes nothing.
use native.Mathlib.Omega.{arith}
use mathlib.Core.Path.{refl}
use Rattle.chroma_qp_check.specs.Pivots.{entry_qp}
use Rattle.chroma_qp_check.proofs.start_qp.Statement.{statement}
use Rattle.chroma_qp_check.proofs.start_qp.Tie as tie

returns : tie.Need-returns-then-global_offset
unfolding entry_qp
returns c = rw c.if-global_offset.true (refl, omega arith)

returns-2 : tie.Need-returns-else-global_offset
unfolding entry_qp
returns-2 c = rw c.if-global_offset.false (refl, omega arith)

pub start_qp_spec : {M : Type 1} → statement M
start_qp_spec = tie.close (tie.spec returns returns-2)
