-- `ward::Turn::first` meets its contract: the first row of Y. Assumes nothing.
use mathlib.Core.Path.{refl}
use Rattle.ward.proofs.Turn.first.Statement.{statement}
use Rattle.ward.proofs.Turn.first.Tie as tie

returns : tie.Need-returns
returns c = refl

pub first_spec : {M : Type 1} → statement M
first_spec = tie.close (tie.spec returns)
