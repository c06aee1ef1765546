-- `ward_rows::quarter_of` meets its contract: the sum fits. Assumes nothing.
use Rattle.std.proofs.Common.{refl, rules}
use Rattle.ward_rows.specs.Samples.{quarter}
use Rattle.ward_rows.proofs.quarter_of.Statement.{statement}
use Rattle.ward_rows.proofs.quarter_of.Tie as tie

add_result : tie.Need-overflow_add-result
add_result c = search rules

add_result_2 : tie.Need-overflow_add-result-2
add_result_2 c = search rules

add_result_3 : tie.Need-overflow_add-result-3
add_result_3 c = search rules

add_result_4 : tie.Need-overflow_add-result-4
add_result_4 c = search rules

cast_result : tie.Need-overflow_cast-result
cast_result c = search rules

returns : tie.Need-returns
unfolding quarter
returns c = refl

pub quarter_of_spec : {M : Type 1} → statement M
quarter_of_spec =
    tie.close (tie.spec add_result add_result_2 add_result_3 add_result_4 cast_result returns)
