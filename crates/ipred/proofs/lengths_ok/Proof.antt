-- `ipred::lengths_ok` meets its contract: the code is the list of tests. Assumes nothing.
use mathlib.Core.Path.{refl}
use native.Mathlib.Nat.{mul-le-mul}
use native.Mathlib.Omega.{arith}
use borrow.Author.Rules.{rules}
use Rattle.ipred.specs.Predict.{lengths_ok}
use Rattle.ipred.proofs.lengths_ok.Statement.{statement}
use Rattle.ipred.proofs.lengths_ok.Tie as tie

mul_result_2 : tie.Need-overflow_mul-result-2
mul_result_2 c = omega (arith, mul-le-mul c.requires c.requires)

returns : tie.Need-returns
unfolding lengths_ok
returns c = refl

pub lengths_ok_spec : {M : Type 1} → statement M
lengths_ok_spec = tie.close (tie.spec (λ c. search rules) (λ c. search rules) mul_result_2 returns)
