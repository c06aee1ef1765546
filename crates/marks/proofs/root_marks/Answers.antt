-- The marks of the block of 64 that root i is, from the root's own bytes. Assumes nothing.
use native.Mathlib.Omega.{arith}
use Rattle.marks_rules.specs.Marks.{blocks_in}
use Rattle.split.proofs.Roots.{bytes_long}
use Rattle.marks.proofs.Calls.{root_at, root_listed}
use Rattle.marks.proofs.Lists.{listed_as}
use Rattle.marks.proofs.root_marks.Goals as goal

pub mark_sixty_four-requires : goal.mark_sixty_four-requires
unfolding blocks_in
mark_sixty_four-requires c =
    let p = c.requires in
    let q = c.root_place-at.ensures in
    (root_at p.0 _ p.2 q.0 q.1, bytes_long p.0 _ _ p.2 p.1, omega (arith, p.3))

pub returns : goal.returns
returns c =
    let q = c.root_place-at.ensures in
    listed_as (root_listed c.requires.0 c.args.i c.args.splits.now q.0 q.1) c.mark_sixty_four.ensures
