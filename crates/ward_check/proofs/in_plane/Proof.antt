-- `ward_check::in_plane` meets its contract: luma is plane 0. Assumes nothing.
use borrow.Author.Tests.{eq-eqb, ne_eqb}
use Rattle.ward_check.proofs.in_plane.Statement.{statement}
use Rattle.ward_check.proofs.in_plane.Tie as tie

returns : tie.Need-returns-then-k-eq0
returns c = rw (eq-eqb _ _ c.if-k-eq0.true)

returns-2 : tie.Need-returns
returns-2 c = rw (ne_eqb _ _ c.if-k-eq0.false)

pub in_plane_spec : {M : Type 1} → statement M
in_plane_spec = tie.close (tie.spec returns returns-2)
