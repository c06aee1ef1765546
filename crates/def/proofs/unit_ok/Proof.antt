-- `def::unit_ok` meets its contract: the code is the list of tests. Assumes nothing.
use mathlib.Core.Path.{refl}
use Rattle.def.specs.Blocks.{unit_ok}
use Rattle.def.proofs.unit_ok.Statement.{statement}
use Rattle.def.proofs.unit_ok.Tie as tie

returns : tie.Need-returns
unfolding unit_ok
returns c = refl

pub unit_ok_spec : {M : Type 1} → statement M
unit_ok_spec = tie.close (tie.spec returns)
