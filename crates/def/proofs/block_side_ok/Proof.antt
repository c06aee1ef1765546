-- `def::block_side_ok` meets its contract: the code is the list of tests. Assumes nothing.
use mathlib.Core.Path.{refl}
use Rattle.def.specs.Blocks.{block_side_ok}
use Rattle.def.proofs.block_side_ok.Statement.{statement}
use Rattle.def.proofs.block_side_ok.Tie as tie

returns : tie.Need-returns
unfolding block_side_ok
returns c = refl

pub block_side_ok_spec : {M : Type 1} → statement M
block_side_ok_spec = tie.close (tie.spec returns)
