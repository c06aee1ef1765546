-- `rows::lengths_ok` meets its contract: the products fit, and the code is the list of tests. Assumes nothing.
use mathlib.Core.Path.{refl}
use native.Mathlib.Omega.{arith}
use Rattle.def.proofs.Units.{few_units}
use Rattle.rows_rules.specs.Checks.{lengths_ok}
use Rattle.rows.proofs.lengths_ok.Statement.{statement}
use Rattle.rows.proofs.lengths_ok.Tie as tie

mul_n : tie.Need-overflow_mul-n
mul_n c = omega (arith, few_units c.args.w c.args.h c.requires.0 c.requires.1)

mul_result : tie.Need-overflow_mul-result
mul_result c = omega (arith, few_units c.args.w c.args.h c.requires.0 c.requires.1)

mul_result_2 : tie.Need-overflow_mul-result-2
mul_result_2 c = omega (arith, few_units c.args.w c.args.h c.requires.0 c.requires.1)

returns : tie.Need-returns
unfolding lengths_ok
returns c = refl

pub lengths_ok_spec : {M : Type 1} → statement M
lengths_ok_spec = tie.close (tie.spec mul_n mul_result mul_result_2 returns)
