-- `edge_filter::count_luma` meets its contract: none of a picture that is too wide, and no more than 256. Assumes nothing.
use native.Mathlib.Omega.{arith}
use Rattle.edge_filter.proofs.Turns.{count_wide, count_few}
use Rattle.edge_filter.proofs.count_luma.Statement.{statement}
use Rattle.edge_filter.proofs.count_luma.Tie as tie

returns : tie.Need-returns-then-columns-gt1024
returns c = (count_wide _ _ c.if-columns-gt1024.true, omega arith, λ h. omega arith)

returns-2 : tie.Need-returns-then-n-lt256
returns-2 c = (count_few _ _ _ c.if-columns-gt1024.false (omega (arith, c.if-n-lt256.true)), omega (arith, c.if-n-lt256.true), λ h. c.if-columns-gt1024.false)

returns-3 : tie.Need-returns-else-n-lt256
returns-3 c = (count_few _ _ _ c.if-columns-gt1024.false (omega (arith, c.if-n-lt256.false)), omega arith, λ h. c.if-columns-gt1024.false)

pub count_luma_spec : {M : Type 1} → statement M
count_luma_spec =
    tie.close
    (tie.spec
    returns returns-2 returns-3)
