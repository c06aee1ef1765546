-- `split::root_ok` meets its contract: the code is the list of tests. Assumes nothing.
use mathlib.Core.Path.{refl}
use Rattle.split.specs.LeavesCall.{root_ok}
use Rattle.split.proofs.root_ok.Statement.{statement}
use Rattle.split.proofs.root_ok.Tie as tie

returns : tie.Need-returns
unfolding root_ok
returns c = refl

pub root_ok_spec : {M : Type 1} → statement M
root_ok_spec = tie.close (tie.spec returns)
