-- `ward_check::window_ok` meets its contract: the code is the list of tests. Assumes nothing.
use mathlib.Core.Path.{refl}
use Rattle.ward_check.specs.Checks.{window_ok}
use Rattle.ward_check.proofs.window_ok.Statement.{statement}
use Rattle.ward_check.proofs.window_ok.Tie as tie

returns : tie.Need-returns
unfolding window_ok
returns c = refl

pub window_ok_spec : {M : Type 1} → statement M
window_ok_spec = tie.close (tie.spec returns)
