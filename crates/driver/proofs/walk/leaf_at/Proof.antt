-- `driver::walk::leaf_at` meets its contract: the three numbers that its own stands for. Assumes nothing.
use Prim.Native.Nat.{◌≤◌}
use mathlib.Core.Path.{sym}
use native.Mathlib.Omega.{arith}
use lib.ListN.{get_or}
use Rattle.driver.proofs.Packing.{from_0, from_1, from_2}
use Rattle.driver.proofs.walk.leaf_at.Statement.{statement}
use Rattle.driver.proofs.walk.leaf_at.Tie as tie

-- the leaf's number
few : (c : tie.After-shared_slice_known-1) → get_or c.args.leaves.now c.args.j 0 ≤ 65535
few c = omega (arith, c.shared_slice_known-1.given c.args.j)

returns : tie.Need-returns
returns c =
    let a = c.args in
    let h = c.requires.0 in
    let x = a.root.x.0 in
    let y = a.root.y.0 in
    (sym (from_0 x y a.leaves.now a.j h), sym (from_1 x y a.leaves.now a.j h), sym (from_2 x y a.leaves.now a.j h))

pub leaf_at_spec : {M : Type 1} → statement M
leaf_at_spec =
    tie.close
    (tie.spec (λ c. omega (arith, c.requires.1, c.requires.0)) (λ c. omega (arith, c.requires.1, c.requires.0)) (λ c. omega (arith, few c))
    (λ c. omega (arith, few c)) (λ c. omega (arith, few c.before, c.requires.2)) (λ c. omega (arith, few c.before))
    (λ c. omega (arith, few c.before.before, c.requires.3)) (λ c. omega (arith, few c.before.before))
    returns)
