-- `df_check::check::keep_ok` meets its contract: after i turns the flag is the test of the first i marks. Assumes nothing.
use Prim.Native.Nat.{ℕ, ◌-◌, ◌≤◌}
use mathlib.Core.Path.{◌≡◌, sym, ◌∙◌}
use native.Mathlib.Omega.{arith}
use borrow.Author.Rules.{rules}
use lib.Dec.{leb}
use lib.ListN.{length, get_or}
use Rattle.laws.specs.Scan.{all_below}
use Rattle.laws.proofs.Scans.{scan_none}
use Rattle.laws.proofs.ScanAll.{scan_step}
use Rattle.df_check.specs.Checks.{keep_ok}
use Rattle.df_check.proofs.check.keep_ok.Statement.{statement}
use Rattle.df_check.proofs.check.keep_ok.Tie as tie

abbrev invariant-loop : tie.invariant-loop-i
invariant-loop keep ok₀ i₀ n ok i = (i ≤ length keep) × (ok ≡ all_below (λ (k : ℕ). leb (get_or keep k 0) 1) i)

abbrev decreases-loop : tie.decreases-loop-i
decreases-loop keep ok₀ i₀ n ok i = length keep - i

loop_holds : tie.Need-loop-i-init invariant-loop decreases-loop
loop_holds c = (omega arith, sym (scan_none _))

loop_again : tie.Need-loop-i-preserved invariant-loop decreases-loop
loop_again c =
    let h = c.loop-i in
    (search rules, rw h.invariant.1 (sym (scan_step _ _)))

returns : tie.Need-returns invariant-loop decreases-loop
unfolding keep_ok
returns c =
    let e : c.loop-i.i ≡ length c.args.keep.now = omega arith in
    c.loop-i.invariant.1 ∙ rw e

pub keep_ok_spec : {M : Type 1} → statement M
keep_ok_spec =
    tie.close
    (tie.spec invariant-loop decreases-loop loop_holds (λ c. search rules) (λ c. search rules) (λ c. search rules) loop_again returns)
