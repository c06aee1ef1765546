-- `unit_edits::with_flag` meets its contract: what lies above the bit, the bit, and what lies below. Assumes nothing.
use Prim.Native.Nat.{ℕ}
use mathlib.Core.Path.{ap, ◌∙◌}
use native.Mathlib.Omega.{arith}
use borrow.Author.Rules.{rules}
use Rattle.laws.specs.Bits.{with_field}
use Rattle.rows_rules.proofs.Sides.{flag_at_15, flag_at_24}
use Rattle.unit_edits.proofs.with_flag.Statement.{statement}
use Rattle.unit_edits.proofs.with_flag.Tie as tie

mul_result_2 : tie.Need-overflow_mul-result-in-Intra
mul_result_2 c = omega (arith, c.bit_of-one.ensures.1)

add_result : tie.Need-overflow_add-result
add_result c = omega (arith, c.bit_of-one.ensures.1)

add_result_2 : tie.Need-overflow_add-result-in-Intra
add_result_2 c = omega (arith, c.bit_of-one.ensures.1)

mul_result_4 : tie.Need-overflow_mul-result-in-Coded-2
mul_result_4 c = omega (arith, c.bit_of-one.ensures.1)

add_result_3 : tie.Need-overflow_add-result-in-Coded
add_result_3 c = omega (arith, c.bit_of-one.ensures.1)

add_result_4 : tie.Need-overflow_add-result-in-Coded-2
add_result_4 c = omega (arith, c.bit_of-one.ensures.1)

returns : tie.Need-returns-in-Intra
returns c = rw c.in-Intra.is (flag_at_15 _ _ ∙ ap (λ (b : ℕ). with_field 15 1 b c.args.word) c.bit_of-one.ensures.0)

returns-2 : tie.Need-returns-in-Coded
returns-2 c = rw c.in-Coded.is (flag_at_24 _ _ ∙ ap (λ (b : ℕ). with_field 24 1 b c.args.word) c.bit_of-one.ensures.0)

pub with_flag_spec : {M : Type 1} → statement M
with_flag_spec =
    tie.close
    (tie.spec
    (λ c κs. search rules)
    (λ c. search rules)
    (λ c. search rules)
    mul_result_2
    add_result
    add_result_2
    (λ c. search rules)
    (λ c. search rules)
    mul_result_4
    add_result_3
    add_result_4
    returns
    returns-2)
