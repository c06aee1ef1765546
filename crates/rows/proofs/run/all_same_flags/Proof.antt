-- `rows::run::all_same_flags` meets its contract: after j turns the flag is the test of the first j units. Assumes nothing.
use Prim.Native.Nat.{◌-◌, ◌≤◌}
use mathlib.Core.Path.{◌≡◌, sym, ◌∙◌}
use native.Mathlib.Omega.{arith}
use borrow.Author.Rules.{rules}
use Rattle.laws.proofs.Scans.{scan_none}
use Rattle.laws.proofs.ScanAll.{scan_step}
use Rattle.rows_rules.specs.Runs.{flags_from}
use Rattle.rows.proofs.run.all_same_flags.Statement.{statement}
use Rattle.rows.proofs.run.all_same_flags.Tie as tie

abbrev invariant-loop : tie.invariant-loop-j
invariant-loop words at from n ok₀ j₀ ok j = (j ≤ n) × (ok ≡ flags_from words at from j)

abbrev decreases-loop : tie.decreases-loop-j
decreases-loop words at from n ok₀ j₀ ok j = n - j

loop_holds : tie.Need-loop-j-init invariant-loop decreases-loop
loop_holds c = (omega arith, sym (scan_none _))

loop_again : tie.Need-loop-j-preserved invariant-loop decreases-loop
loop_again c = (omega arith, rw (c.loop-j.invariant.1, c.same_flags-ok.ensures) (sym (scan_step _ _)))

returns : tie.Need-returns invariant-loop decreases-loop
returns c =
    let e : c.loop-j.j ≡ c.args.n = omega arith in
    c.loop-j.invariant.1 ∙ rw e

pub all_same_flags_spec : {M : Type 1} → statement M
all_same_flags_spec =
    tie.close
    (tie.spec invariant-loop decreases-loop loop_holds (λ c. omega arith) (λ c. omega arith) (λ c. omega arith) (λ c. omega arith) (λ c. omega arith) (λ c. omega arith) (λ c κs. search rules)
    (λ c. omega arith) (λ c. omega arith) loop_again returns)
