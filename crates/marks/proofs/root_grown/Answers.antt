-- The digits of the block of 64 that root i is. Assumes nothing.
use mathlib.Core.Path.{◌≡◌}
use Prim.Native.Nat.{◌-◌}
use native.Mathlib.Omega.{arith}
use Rattle.marks_rules.specs.Marks.{blocks_in}
use Rattle.marks.proofs.Calls.{root_at, root_grown, grew_between}
use Rattle.marks.proofs.Growing.{grew_as}
use Rattle.marks.proofs.root_grown.Goals as goal
use Rattle.marks.proofs.root_grown.Goals.{then-from-to, else-from-to}

pub grow_sixty_four-requires : goal.grow_sixty_four-requires
unfolding blocks_in
grow_sixty_four-requires c =
    let p = c.requires in
    let q = c.root_place-at.ensures in
    let e : c.if-from-to.count ≡ c.args.to - c.args.from =
    elim c.if-from-to.branch [ then-from-to w ↦ omega arith | else-from-to w ↦ omega arith ] in
    (root_at p.0 _ p.1 q.0 q.1, omega arith, omega arith)

pub returns : goal.returns
returns c =
    let q = c.root_place-at.ensures in
    let e : c.if-from-to.count ≡ c.args.to - c.args.from =
    elim c.if-from-to.branch [ then-from-to w ↦ omega arith | else-from-to w ↦ omega arith ] in
    grew_between _ _ c.args.i c.args.from c.args.to c.args.src.now
    e (grew_as (root_grown c.requires.0 c.args.i _ q.0 q.1) c.grow_sixty_four.ensures)
