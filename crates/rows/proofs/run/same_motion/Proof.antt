-- `rows::run::same_motion` meets its contract: after j turns the flag is the test of the first j numbers. Assumes nothing.
use Prim.Native.Nat.{◌-◌, ◌≤◌, ◌<◌}
use mathlib.Core.Path.{◌≡◌, sym, ◌∙◌}
use native.Mathlib.Omega.{arith}
use borrow.Author.Rules.{rules}
use lib.IntN.{ℤ}
use lib.Signed.{mag}
use mir.Syntax.{w16}
use mir.Val.{to_z, of_z}
use Rattle.laws.proofs.Widths.{back}
use Rattle.laws.proofs.Scans.{scan_none}
use Rattle.laws.proofs.ScanAll.{scan_step}
use Rattle.rows_rules.specs.Runs.{same_from}
use Rattle.rows.proofs.run.same_motion.Statement.{statement}
use Rattle.rows.proofs.run.same_motion.Tie as tie

abbrev invariant-loop : tie.invariant-loop-j
invariant-loop motion at from n ok₀ j₀ ok j = (j ≤ n) × (ok ≡ same_from motion at from j)

abbrev decreases-loop : tie.decreases-loop-j
decreases-loop motion at from n ok₀ j₀ ok j = n - j

loop_holds : tie.Need-loop-j-init invariant-loop decreases-loop
loop_holds c = (omega arith, sym (scan_none _))

number : {z : ℤ} → mag z < 32768 → to_z w16 (of_z w16 z) ≡ z
number {z} h = back w16 z (record { sfits = h })

loop_again : tie.Need-loop-j-preserved invariant-loop decreases-loop
loop_again c = (
  omega arith,
  rw (c.loop-j.invariant.1, c.same_number-ok.ensures, number c.same_number-arg-1.given, number c.same_number-arg-in-loop-j-1.given)
      (sym (scan_step _ _)),
)

returns : tie.Need-returns invariant-loop decreases-loop
returns c =
    let e : c.loop-j.j ≡ c.args.n = omega arith in
    c.loop-j.invariant.1 ∙ rw e

pub same_motion_spec : {M : Type 1} → statement M
same_motion_spec =
    tie.close
    (tie.spec invariant-loop decreases-loop loop_holds (λ c. omega arith) (λ c. omega arith) (λ c. omega arith) (λ c. omega arith) (λ c. omega arith) (λ c. omega arith) (λ c κs. search rules)
    (λ c. omega arith) (λ c. omega arith) loop_again returns)
