-- `edges::limit_ok` meets its contract: the code is the list of tests. Assumes nothing.
use mathlib.Core.Path.{refl}
use Rattle.split.specs.ListCall.{limit_ok}
use Rattle.edges.proofs.limit_ok.Statement.{statement}
use Rattle.edges.proofs.limit_ok.Tie as tie

returns : tie.Need-returns
unfolding limit_ok
returns c = refl

pub limit_ok_spec : {M : Type 1} → statement M
limit_ok_spec = tie.close (tie.spec returns)
