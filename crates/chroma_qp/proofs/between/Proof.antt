-- `chroma_qp::between` meets its contract: the numbers are small, and what is taken away is no more than what is there. Assumes nothing.
use Prim.Native.Nat.{ℕ, ◌*◌, ◌≤◌}
use native.Mathlib.Nat.{mul-le-mul}
use native.Mathlib.Omega.{arith}
use borrow.Author.Rules.{rules}
use Rattle.chroma_qp.proofs.Parts.{up_most, down_most, held_up, held_down}
use Rattle.chroma_qp.proofs.between.Statement.{statement}
use Rattle.chroma_qp.proofs.between.Tie as tie

product : (x m : ℕ) → x ≤ 69 → m ≤ 69 → x * m ≤ 4761
product x m h k = mul-le-mul h k

mul_up : tie.Need-overflow_mul-up
mul_up c = omega (arith, product c.args.to c.args.m (omega arith) (omega arith))

add_up : tie.Need-overflow_add-up
add_up c = omega (arith, product c.args.to c.args.m (omega arith) (omega arith))

mul_down : tie.Need-overflow_mul-down
mul_down c = omega (arith, product c.args.from c.args.m (omega arith) (omega arith))

add_result : tie.Need-overflow_add-result
add_result c = let a = c.args in omega (arith, up_most a.from a.to a.n a.m (omega arith) (omega arith))

sub_result_2 : tie.Need-overflow_sub-result-else-down-up-2
sub_result_2 c = let a = c.args in omega (arith, down_most a.from a.to a.n a.m (omega arith) (omega arith))

returns : tie.Need-returns-then-down-up
returns c = held_up _ _ _ _ _ c.if-down-up.true

returns-2 : tie.Need-returns-else-down-up
returns-2 c = held_down _ _ _ _ _ c.if-down-up.false

pub between_spec : {M : Type 1} → statement M
between_spec =
    tie.close
    (tie.spec mul_up add_up mul_down (λ c. search rules) add_result (λ c. search rules) (λ c. search rules) sub_result_2 returns returns-2)
