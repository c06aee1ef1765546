-- `rows::run::put_joined` meets its contract: a loop that stores from the front. Assumes nothing.
use Prim.Native.Nat.{ℕ, ◌+◌, ◌-◌, ◌*◌, ◌≤◌}
use mathlib.Core.Path.{refl}
use native.Mathlib.Omega.{arith}
use lib.ListN.{get_or}
use Rattle.laws.proofs.Fill.{Upto, upto_none, upto_more}
use Rattle.rows.proofs.run.put_joined.Statement.{statement}
use Rattle.rows.proofs.run.put_joined.Tie as tie

abbrev invariant-loop : tie.invariant-loop-j
invariant-loop left top n bytes₀ j₀ bytes j = Upto 0 (λ (i : ℕ). 4 * get_or top i 0 + get_or left i 0) bytes₀ bytes j × (j ≤ n)

abbrev decreases-loop : tie.decreases-loop-j
decreases-loop left top n bytes₀ j₀ bytes j = n - j

loop_holds : tie.Need-loop-j-init invariant-loop decreases-loop
loop_holds c = (upto_none _ _ _, omega arith)

mul_bytes : tie.Need-overflow_mul-bytes invariant-loop decreases-loop
mul_bytes c = omega (arith, c.requires.4 c.loop-j.j c.loop-j-test.true)

add_bytes : tie.Need-overflow_add-bytes invariant-loop decreases-loop
add_bytes c =
    let s = c.requires in
    let j = c.loop-j.j in
    let h = c.loop-j-test.true in
    omega (arith, s.3 j h, s.4 j h)

slice_write_bytes : tie.Need-bounds-bytes-j invariant-loop decreases-loop
slice_write_bytes c = omega (arith, c.loop-j.invariant.0.long)

loop_again : tie.Need-loop-j-preserved invariant-loop decreases-loop
loop_again c = let l = c.loop-j in (upto_more _ _ _ _ l.j _ (omega arith) refl l.invariant.0, omega arith)

returns : tie.Need-returns invariant-loop decreases-loop
returns c = let l = c.loop-j in record { long = l.invariant.0.long; at = λ i h. l.invariant.0.below i (omega (arith, c.loop-j-test.false)) }

pub put_joined_spec : {M : Type 1} → statement M
put_joined_spec =
    tie.close
    (tie.spec invariant-loop decreases-loop loop_holds (λ c. omega arith) mul_bytes (λ c. omega arith) add_bytes slice_write_bytes (λ c. omega arith) (λ c. omega arith) loop_again
    (λ c. c.loop-j.invariant.0.long) returns)
