-- `mpm::lengths_ok` meets its contract: the product fits, and the code is the list of tests. Assumes nothing.
use mathlib.Core.Path.{refl}
use native.Mathlib.Omega.{arith}
use Rattle.mpm.specs.Ranks.{lengths_ok}
use Rattle.def.proofs.Units.{few_units}
use Rattle.mpm.proofs.lengths_ok.Statement.{statement}
use Rattle.mpm.proofs.lengths_ok.Tie as tie

mul_units : tie.Need-overflow_mul-units
mul_units c = omega (arith, few_units c.args.w c.args.h c.requires.0 c.requires.1)

returns : tie.Need-returns
unfolding lengths_ok
returns c = refl

pub lengths_ok_spec : {M : Type 1} → statement M
lengths_ok_spec = tie.close (tie.spec mul_units returns)
