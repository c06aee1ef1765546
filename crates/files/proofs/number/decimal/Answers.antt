use native.Mathlib.Omega.{arith}
use Prim.Native.Nat.{◌≤◌}
use Rattle.files.proofs.Counting.{prefix_len_of_le}
use Rattle.files.proofs.number.Powers.{digit_count_le}
use Rattle.files.proofs.number.decimal.Goals as goal
use Rattle.files.proofs.number.decimal.Goals.{After-digit_count-k}

-- twenty digits hold a u64
count_fits : (c : goal.After-digit_count-k) → c.digit_count-k.result ≤ 20
count_fits c = digit_count_le c.args.n c.digit_count-k.result 20 c.digit_count-k.ensures (omega arith) (omega arith)

pub write_digits-requires : goal.write_digits-requires
write_digits-requires c = record { in_bounds = omega (arith, count_fits (goal.at.write_digits-requires c).After-digit_count-k) }

pub returns-clause-in_bounds : goal.returns-clause-in_bounds
returns-clause-in_bounds c = prefix_len_of_le _ _ (omega (arith, count_fits (goal.at.returns-clause-in_bounds c).After-digit_count-k))
