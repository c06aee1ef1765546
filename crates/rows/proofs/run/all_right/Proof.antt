-- `rows::run::all_right` meets its contract: after the runs before k the flag is the test of the first k bytes. Assumes nothing.
use Prim.Native.Nat.{ℕ, ◌-◌, ◌≤◌}
use mathlib.Core.Path.{◌≡◌, refl, sym, ◌∙◌}
use native.Mathlib.Nat.{mod-lt}
use native.Mathlib.Omega.{arith}
use borrow.Author.Tests.{eqb-true}
use lib.Dec.{eqb}
use lib.ListN.{length, get_or}
use Rattle.laws.specs.Scan.{all_below}
use Rattle.laws.proofs.Scans.{scan_none}
use Rattle.rows_rules.specs.Rule.{rule_byte, right_bytes}
use Rattle.rows_rules.proofs.Runs.{joins_if}
use Rattle.rows.proofs.run.all_right.Statement.{statement}
use Rattle.rows.proofs.run.all_right.Tie as tie

abbrev invariant-loop : tie.invariant-loop-k
invariant-loop columns words motion refs rows size ok₀ k₀ ok k = (k ≤ length rows) × (ok ≡ all_below (λ (j : ℕ). eqb (get_or rows j 0) (rule_byte words motion refs columns j)) k)

abbrev decreases-loop : tie.decreases-loop-k
decreases-loop columns words motion refs rows size ok₀ k₀ ok k = length rows - k

loop_holds : tie.Need-loop-k-init invariant-loop decreases-loop
loop_holds c = (omega arith, sym (scan_none _))

rem_run_length : tie.Need-nonzero_rem-x invariant-loop decreases-loop
rem_run_length c = omega (arith, c.requires.0.some)

run_length_requires : tie.Need-run_length-n-requires invariant-loop decreases-loop
run_length_requires c κs = (mod-lt c.loop-k.k c.requires.0.some, omega (arith, c.loop-k-test.true))

run_right_requires : tie.Need-run_right-ok-requires invariant-loop decreases-loop
run_right_requires c κs =
    let r = c.run_length-n.ensures in
    (c.requires.0, c.requires.1, record { column = refl; fits = r.1; inside = omega (arith, r.2, c.requires.1, c.loop-k-test.true) }, r.3)

add_k : tie.Need-overflow_add-k invariant-loop decreases-loop
add_k c = omega (arith, c.run_length-n.ensures.2, c.loop-k-test.true)

loop_less : tie.Need-loop-k-smaller invariant-loop decreases-loop
loop_less c = omega (arith, c.run_length-n.ensures.0, c.run_length-n.ensures.2, c.loop-k-test.true)

loop_again : tie.Need-loop-k-preserved invariant-loop decreases-loop
loop_again c = (
  omega (arith, c.run_length-n.ensures.2, c.loop-k-test.true),
  joins_if _ _ _ _ _ c.loop-k.invariant.1 (λ all. c.run_right-ok.ensures (λ i l. eqb-true _ _ (all i l))),
)

returns : tie.Need-returns invariant-loop decreases-loop
unfolding right_bytes
returns c =
    let e : c.loop-k.k ≡ length c.args.rows.now = omega (arith, c.loop-k.invariant.0, c.loop-k-test.false) in
    c.loop-k.invariant.1 ∙ rw e

pub all_right_spec : {M : Type 1} → statement M
all_right_spec = tie.close (tie.spec invariant-loop decreases-loop loop_holds rem_run_length (λ c. omega (arith, c.loop-k-test.true)) run_length_requires run_right_requires add_k loop_less loop_again returns)
