-- `driver_check::check::past_leaves` meets its contract: a turn goes past one leaf more. Assumes nothing.
use Prim.Native.Nat.{◌+◌, ◌-◌, ◌*◌, ◌≤◌, ◌<◌}
use mathlib.Core.Path.{◌≡◌, refl, ap, ◌∙◌}
use native.Mathlib.Omega.{arith}
use lib.ListN.{length}
use Rattle.split.specs.Stored.{leaves_from}
use Rattle.driver_rules.specs.Records.{walked_to, passed}
use Rattle.driver_rules.proofs.Walked.{passed_none, past_one}
use Rattle.driver_check.proofs.check.past_leaves.Statement.{statement}
use Rattle.driver_check.proofs.check.past_leaves.Tie as tie

abbrev invariant-loop : tie.invariant-loop-j
invariant-loop leaves list n k at₀ j₀ at j = (j ≤ n) × (walked_to at (k + j) ≡ passed leaves (leaves_from list j) (walked_to at₀ k)) × (at ≤ 12288 * (k + j))

abbrev decreases-loop : tie.decreases-loop-j
decreases-loop leaves list n k at₀ j₀ at j = n - j

loop_holds : tie.Need-loop-j-init invariant-loop decreases-loop
loop_holds c =
    let e : c.args.from.k + 0 ≡ c.args.from.k = omega arith in
    (omega arith, ap (walked_to c.args.from.at) e ∙ passed_none c.args.leaves.now c.args.list.now (walked_to c.args.from.at c.args.from.k), omega (arith, c.requires.2))

in_list : (c : tie.In-loop-j invariant-loop decreases-loop) → 3 * c.loop-j.j + 2 < length c.args.list.now
in_list c = omega (arith, c.requires.0.long, c.requires.0.few)

small : (c : tie.In-loop-j invariant-loop decreases-loop) → c.args.from.k + c.loop-j.j ≤ 1048576
small c = omega (arith, c.requires.0.few, c.requires.1)

leaf_end_requires : tie.Need-leaf_end-at-requires invariant-loop decreases-loop
leaf_end_requires c κs =
    (c.requires.0.most _ c.loop-j-test.true, omega (arith, c.loop-j.invariant.2, small c.before.before))

loop_again : tie.Need-loop-j-preserved invariant-loop decreases-loop
loop_again c =
    let l = c.loop-j in
    let e = rw c.mask_at.ensures at c.leaf_end-at.ensures.0 in (
      omega arith,
      past_one c.args.leaves.now c.args.list.now l.j (walked_to c.args.from.at c.args.from.k) l.at (c.args.from.k + l.j) _ _
          (c.requires.0.units _ c.loop-j-test.true) l.invariant.1 e (omega arith),
      omega (arith, c.leaf_end-at.ensures.1, l.invariant.2),
    )

returns : tie.Need-returns invariant-loop decreases-loop
returns c =
    let l = c.loop-j in
    let e : l.j ≡ c.args.n = omega arith in
    (rw (← e) l.invariant.1, refl, rw (← e) l.invariant.2)

pub past_leaves_spec : {M : Type 1} → statement M
past_leaves_spec =
    tie.close
    (tie.spec invariant-loop decreases-loop loop_holds (λ c. omega (arith, in_list c)) (λ c. omega (arith, in_list c)) (λ c. omega (arith, in_list c))
    (λ c. omega (arith, in_list c.before)) (λ c. omega (arith, in_list c.before, c.shared_slice_known-in-loop-j-1.given (3 * c.loop-j.j + 2)))
    (λ c. omega (arith, small c.before)) (λ c κs. small c.before) leaf_end_requires
    (λ c. omega arith) (λ c. omega arith) loop_again (λ c. omega (arith, c.requires.0.few, c.requires.1)) returns)
