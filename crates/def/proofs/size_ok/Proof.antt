-- `def::size_ok` meets its contract: the code is the list of tests. Assumes nothing.
use mathlib.Core.Path.{refl}
use Rattle.def.specs.Picture.{size_ok}
use Rattle.def.proofs.size_ok.Statement.{statement}
use Rattle.def.proofs.size_ok.Tie as tie

returns : tie.Need-returns
unfolding size_ok
returns c = refl

pub size_ok_spec : {M : Type 1} → statement M
size_ok_spec = tie.close (tie.spec returns)
