-- `window::copy_row` meets its contract: after k turns the first k samples of the row are written, and the length is kept. Assumes nothing.
use Prim.Native.Nat.{◌+◌, ◌-◌, ◌≤◌}
use mathlib.Core.Path.{◌≡◌, refl, ◌∙◌}
use native.Mathlib.Omega.{arith}
use borrow.Author.Rules.{rules}
use lib.ListN.{length, get_or, length-set}
use Rattle.laws.specs.Plane.{with_row}
use Rattle.window.proofs.Rows.{row_none, row_more}
use Rattle.window.proofs.copy_row.Statement.{statement}
use Rattle.window.proofs.copy_row.Tie as tie

abbrev invariant-loop : tie.invariant-loop-k
invariant-loop r₀ to s from n k₀ r k = (k ≤ n) × (length r ≡ length r₀) × (r ≡ with_row 0 to k (λ j. get_or s (from + j) 0) r₀)

abbrev decreases-loop : tie.decreases-loop-k
decreases-loop r₀ to s from n k₀ r k = n - k

loop_holds : tie.Need-loop-k-init invariant-loop decreases-loop
loop_holds c = (omega arith, refl, row_none _ _ _)

loop_again : tie.Need-loop-k-preserved invariant-loop decreases-loop
loop_again c =
    let l = c.loop-k in
    (omega arith, length-set l.r _ _ ∙ l.invariant.1, row_more _ l.k _ _ l.r l.invariant.2)

same_length : tie.Need-shape_of-r invariant-loop decreases-loop
same_length c = c.loop-k.invariant.1

returns : tie.Need-returns invariant-loop decreases-loop
returns c =
    let e : c.loop-k.k ≡ c.args.n = omega arith in
    rw (← e) c.loop-k.invariant.2

pub copy_row_spec : {M : Type 1} → statement M
copy_row_spec =
    tie.close
    (tie.spec invariant-loop decreases-loop loop_holds (λ c. search rules) (λ c. search rules) (λ c. search rules) (λ c. search rules) (λ c. search rules) (λ c. search rules)
    (λ c. search rules) (λ c. search rules) loop_again same_length returns)
