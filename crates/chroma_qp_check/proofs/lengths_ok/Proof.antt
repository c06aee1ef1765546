-- `chroma_qp_check::lengths_ok` meets its contract: the code is the list of tests. Assumes nothing.
use mathlib.Core.Path.{refl}
use Rattle.chroma_qp_check.specs.Check.{lengths_ok}
use Rattle.chroma_qp_check.proofs.lengths_ok.Statement.{statement}
use Rattle.chroma_qp_check.proofs.lengths_ok.Tie as tie

returns : tie.Need-returns
unfolding lengths_ok
returns c = refl

pub lengths_ok_spec : {M : Type 1} → statement M
lengths_ok_spec = tie.close (tie.spec returns)
