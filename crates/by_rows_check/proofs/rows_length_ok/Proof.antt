-- `by_rows_check::rows_length_ok` meets its contract: the product fits, and the code is the two tests. Assumes nothing.
use mathlib.Core.Path.{refl}
use native.Mathlib.Omega.{arith}
use Rattle.def.proofs.Units.{few_units}
use Rattle.by_rows_check.specs.Checks.{rows_length_ok}
use Rattle.by_rows_check.proofs.rows_length_ok.Statement.{statement}
use Rattle.by_rows_check.proofs.rows_length_ok.Tie as tie

mul_result : tie.Need-overflow_mul-result
mul_result c = omega (arith, few_units c.args.w c.args.h c.requires.0 c.requires.1)

returns : tie.Need-returns
unfolding rows_length_ok
returns c = refl

pub rows_length_ok_spec : {M : Type 1} → statement M
rows_length_ok_spec =
    tie.close
    (tie.spec
    mul_result
    returns)
