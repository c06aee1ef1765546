-- `sheet::sides_ok` meets its contract. Assumes nothing.
use mathlib.Core.Path.{refl}
use Rattle.sheet.specs.Text.{sides_ok}
use Rattle.sheet.proofs.sides_ok.Statement.{statement}
use Rattle.sheet.proofs.sides_ok.Tie as tie

returns : tie.Need-returns
unfolding sides_ok
returns c = refl

pub sides_ok_spec : {M : Type 1} → statement M
sides_ok_spec = tie.close (tie.spec returns)
