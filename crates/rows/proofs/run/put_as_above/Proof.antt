-- `rows::run::put_as_above` meets its contract: a loop that stores from the front. Assumes nothing.
use Prim.Native.Nat.{ℕ, ◌+◌, ◌-◌, ◌*◌, ◌%◌, ◌≤◌}
use native.Mathlib.Omega.{arith}
use borrow.Author.Rules.{rules}
use lib.ListN.{get_or}
use Rattle.laws.proofs.Fill.{Upto, upto_none, upto_more}
use Rattle.rows_rules.specs.Runs.{self_row}
use Rattle.rows.proofs.run.put_as_above.Statement.{statement}
use Rattle.rows.proofs.run.put_as_above.Tie as tie

abbrev invariant-loop : tie.invariant-loop-j
invariant-loop words rows top k n bytes₀ j₀ bytes j = Upto 0 (λ (i : ℕ). get_or rows (top + i) 0 % 4 + 4 * self_row (get_or words (k + i) 0)) bytes₀ bytes j × (j ≤ n)

abbrev decreases-loop : tie.decreases-loop-j
decreases-loop words rows top k n bytes₀ j₀ bytes j = n - j

loop_holds : tie.Need-loop-j-init invariant-loop decreases-loop
loop_holds c = (upto_none _ _ _, omega arith)

self_row_requires : tie.Need-self_row-requires invariant-loop decreases-loop
self_row_requires c κs = search rules

slice_write_bytes : tie.Need-bounds-bytes-j invariant-loop decreases-loop
slice_write_bytes c = omega (arith, c.loop-j.invariant.0.long)

loop_again : tie.Need-loop-j-preserved invariant-loop decreases-loop
loop_again c =
    let l = c.loop-j in
    (upto_more _ _ _ _ l.j _ (omega arith) (rw c.self_row.ensures.0) l.invariant.0, omega arith)

returns : tie.Need-returns invariant-loop decreases-loop
returns c = let l = c.loop-j in record { long = l.invariant.0.long; at = λ i h. l.invariant.0.below i (omega (arith, c.loop-j-test.false)) }

pub put_as_above_spec : {M : Type 1} → statement M
put_as_above_spec =
    tie.close
    (tie.spec invariant-loop decreases-loop loop_holds (λ c. omega arith) (λ c. omega arith) (λ c. omega arith) (λ c. omega arith) (λ c. omega arith) self_row_requires
    (λ c. omega (arith, c.self_row.ensures.1)) (λ c. omega (arith, c.self_row.ensures.1)) slice_write_bytes (λ c. omega arith) (λ c. omega arith) loop_again
    (λ c. c.loop-j.invariant.0.long) returns)
