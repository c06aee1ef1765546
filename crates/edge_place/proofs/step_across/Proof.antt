-- `edge_place::step_across` meets its contract: a case for each pass. Assumes nothing.
use Rattle.edge_place.proofs.step_across.Statement.{statement}
use Rattle.edge_place.proofs.step_across.Tie as tie

returns : tie.Need-returns-then-horizontal
returns c = rw c.if-horizontal.true

returns-2 : tie.Need-returns-else-horizontal
returns-2 c = rw c.if-horizontal.false

pub step_across_spec : {M : Type 1} → statement M
step_across_spec = tie.close (tie.spec returns returns-2)
