-- `nbr::flat` meets its contract: the product fits. Assumes nothing.
use Prim.Native.Nat.{◌*◌, ◌≤◌}
use native.Mathlib.Nat.{mul-le-mul}
use native.Mathlib.Omega.{arith}
use borrow.Author.Rules.{rules}
use Rattle.nbr.proofs.flat.Statement.{statement}
use Rattle.nbr.proofs.flat.Tie as tie

product : (c : tie.Start) → c.args.r * c.args.n ≤ 4096 * 4096
product c = mul-le-mul c.requires.2 c.requires.0

mul_result : tie.Need-overflow_mul-result
mul_result c = omega (arith, product c)

add_result : tie.Need-overflow_add-result
add_result c = omega (arith, product c)

pub flat_spec : {M : Type 1} → statement M
flat_spec = tie.close (tie.spec mul_result add_result (λ c. search rules))
