-- `row::put_rows` meets its contract: a loop that stores from the front. Assumes nothing.
use Prim.Native.Nat.{ℕ, ◌+◌, ◌-◌, ◌≤◌}
use native.Mathlib.Omega.{arith}
use Rattle.laws.proofs.Fill.{Upto, upto_none, upto_more}
use Rattle.df_rules.specs.Strength.{row_by}
use Rattle.row.proofs.Runs.{unit_of_lem, first_all}
use Rattle.row.proofs.put_rows.Statement.{statement}
use Rattle.row.proofs.put_rows.Tie as tie

abbrev invariant-loop : tie.invariant-loop-j
invariant-loop words motion refs q p n rows₀ j₀ rows j = Upto 0 (λ (i : ℕ). row_by words motion refs (q + i) (p + i)) rows₀ rows j × (j ≤ n)

abbrev decreases-loop : tie.decreases-loop-j
decreases-loop words motion refs q p n rows₀ j₀ rows j = n - j

loop_holds : tie.Need-loop-j-init invariant-loop decreases-loop
loop_holds c = (upto_none _ _ _, omega arith)

add_row_between : tie.Need-overflow_add-q invariant-loop decreases-loop
add_row_between c = omega (arith, c.requires.0.word, c.loop-j-test.true)

add_row_between_2 : tie.Need-overflow_add-p invariant-loop decreases-loop
add_row_between_2 c = omega (arith, c.requires.1.word, c.loop-j-test.true)

row_between_requires : tie.Need-row_between-requires invariant-loop decreases-loop
row_between_requires c κs =
    let a = c.args in
    (unit_of_lem _ _ _ a.q a.n c.loop-j.j c.requires.0 c.loop-j-test.true, unit_of_lem _ _ _ a.p a.n c.loop-j.j c.requires.1 c.loop-j-test.true)

cast_rows : tie.Need-overflow_cast-rows invariant-loop decreases-loop
cast_rows c = omega (arith, c.row_between.ensures.1)

slice_write_rows : tie.Need-bounds-rows-j invariant-loop decreases-loop
slice_write_rows c = omega (arith, c.requires.2, c.loop-j.invariant.0.long, c.loop-j-test.true)

loop_again : tie.Need-loop-j-preserved invariant-loop decreases-loop
loop_again c =
    let l = c.loop-j in
    let h = c.loop-j-test.true in
    (upto_more _ _ _ _ l.j _ (omega (arith, c.requires.2, h)) c.row_between.ensures.0 l.invariant.0, omega (arith, h))

returns : tie.Need-returns invariant-loop decreases-loop
returns c =
    let l = c.loop-j in
    first_all _ c.args.n l.j _ _ l.invariant.0 (omega (arith, l.invariant.1, c.loop-j-test.false))

pub put_rows_spec : {M : Type 1} → statement M
put_rows_spec =
    tie.close
    (tie.spec invariant-loop decreases-loop loop_holds add_row_between add_row_between_2 row_between_requires cast_rows slice_write_rows
    (λ c. omega (arith, c.loop-j-test.true)) (λ c. omega (arith, c.loop-j-test.true)) loop_again (λ c. c.loop-j.invariant.0.long) returns)
