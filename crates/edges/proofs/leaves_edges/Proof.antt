-- `edges::leaves_edges` meets its contract: after j turns the edges of the first j leaves are written. Assumes nothing.
use mathlib.Core.Path.{◌≡◌, refl, ap, ◌∙◌}
use Prim.Native.Nat.{ℕ, ◌+◌, ◌-◌, ◌*◌, ◌≤◌}
use native.Mathlib.Omega.{arith}
use borrow.Author.Rules.{rules}
use lib.ListN.{length}
use Rattle.edges.proofs.Written.{Written, none_written, leaf_asks, one_written, all_written}
use Rattle.edges.proofs.leaves_edges.Statement.{statement}
use Rattle.edges.proofs.leaves_edges.Tie as tie

abbrev invariant-loop : tie.invariant-loop-j
invariant-loop list n horizontal halved top out₀ at k₀ j₀ out k j =
    (j ≤ n) × (length out ≡ length out₀) × (3 * n ≤ length list) × Written horizontal halved top list out₀ at out j k

abbrev decreases-loop : tie.decreases-loop-j
decreases-loop list n horizontal halved top out₀ at k₀ j₀ out k j = n - j

-- a leaf's row, as it lies in what is lent
mul_y : tie.Need-overflow_mul-y invariant-loop decreases-loop
mul_y c = omega (arith, (c.requires.0.leaves c.loop-j.j c.loop-j-test.true).bottom)

add_y : tie.Need-overflow_add-y invariant-loop decreases-loop
add_y c = omega (arith, (c.requires.0.leaves c.loop-j.j c.loop-j-test.true).bottom, c.number_at-in-loop-j.ensures)

leaf_edges_requires : tie.Need-leaf_edges-k-requires invariant-loop decreases-loop
leaf_edges_requires c κs =
    let l = c.loop-j in
    let p = c.requires in
    leaf_asks p.0 l.invariant.3 c.loop-j-test.true c.number_at.ensures
    (ap (λ (m : ℕ). m + 4 * c.args.top)
    c.number_at-in-loop-j.ensures) c.number_at-side.ensures
    c.across-cross.ensures c.across-along.ensures _ (omega (arith, p.1, l.invariant.1))

loop_again : tie.Need-loop-j-preserved invariant-loop decreases-loop
loop_again c =
    let l = c.loop-j in
    let e = c.leaf_edges-k in (
      omega arith,
      e.auto.out ∙ l.invariant.1,
      l.invariant.2,
      one_written c.requires.0 l.invariant.3
          c.loop-j-test.true
          c.number_at.ensures
          (ap (λ (m : ℕ). m + 4 * c.args.top)
          c.number_at-in-loop-j.ensures) c.number_at-side.ensures
          c.across-cross.ensures c.across-along.ensures _ _ e.ensures,
    )

returns : tie.Need-returns invariant-loop decreases-loop
returns c = let v = c.loop-j.invariant in all_written v.3 c.loop-j-test.false v.0

pub leaves_edges_spec : {M : Type 1} → statement M
leaves_edges_spec =
    tie.close
    (tie.spec
    invariant-loop
    decreases-loop
    (λ c. (omega arith, refl, c.requires.0.long, none_written _ _ _ _ _ _))
    (λ c. omega arith)
    (λ c κs. omega arith)
    (λ c. omega arith)
    (λ c. omega arith)
    (λ c κs. omega arith)
    mul_y
    add_y
    (λ c. omega arith)
    (λ c. omega arith)
    (λ c κs. omega arith)
    (λ c κs. search rules)
    (λ c κs. search rules)
    leaf_edges_requires
    (λ c. omega arith)
    (λ c. omega arith)
    loop_again
    (λ c. c.loop-j.invariant.1)
    returns)
