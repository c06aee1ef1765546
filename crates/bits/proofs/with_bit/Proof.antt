-- `bits::with_bit` meets its contract: the bit that stands there is taken away, and the new one is added. Assumes nothing.
use native.Mathlib.Omega.{arith}
use borrow.Author.Rules.{rules}
use Rattle.bits.proofs.Laws.{bit_fits, put_fits, bit_put}
use Rattle.bits.proofs.with_bit.Statement.{statement}
use Rattle.bits.proofs.with_bit.Tie as tie

cast_result : tie.Need-overflow_cast-result
cast_result c = search rules

shr_result : tie.Need-overflow_shr-result
shr_result c = search rules

cast_result_2 : tie.Need-overflow_cast-result-2
cast_result_2 c = search rules

shl_result : tie.Need-overflow_shl-result
shl_result c = search rules

sub_result : tie.Need-overflow_sub-result
sub_result c = bit_fits c.args.x c.args.k c.args.bit c.requires.0 c.requires.1

cast_result_3 : tie.Need-overflow_cast-result-3
cast_result_3 c = search rules

shl_result_2 : tie.Need-overflow_shl-result-2
shl_result_2 c = search rules

add_result : tie.Need-overflow_add-result
add_result c = omega (arith, put_fits c.args.x c.args.k c.args.bit c.requires.0 c.requires.1 (omega arith))

returns : tie.Need-returns
returns c = bit_put c.args.x c.args.k c.args.bit c.requires.0 c.requires.1

pub with_bit_spec : {M : Type 1} → statement M
with_bit_spec =
    tie.close
    (tie.spec
    cast_result
    shr_result
    cast_result_2
    shl_result
    sub_result
    cast_result_3
    shl_result_2
    add_result
    returns)
