-- A block's own mark, and those of its parts, of side 16. Assumes nothing.
use mathlib.Core.Path.{refl, ◌∙◌}
use native.Mathlib.Omega.{arith}
use borrow.Author.Tests.{not-true, not-false}
use lib.ListN.{length}
use Rattle.marks.proofs.Blocks.{halved}
use Rattle.marks.proofs.Marking.{room_one, next_room, few_parts, no_part, part_block, part_more, part_all, open_whole, open_count, open_cut}
use Rattle.marks.proofs.mark_thirty_two.Goals as goal

pub own_mark-own-requires : goal.own_mark-own-requires
own_mark-own-requires c = let p = c.requires in (p.0, omega arith, p.1, room_one (halved p.0 (omega arith)) _ _ p.2)

-- not cut: its own mark is all that it has
pub returns-then-not-own : goal.returns-then-not-own
returns-then-not-own c = open_whole c.args.bytes.now c.requires.0 c.own_mark-own.ensures (not-true _ c.if-not-own.true)

-- the loop over the four parts
pub loop-part-init : goal.loop-part-init
loop-part-init c = (refl, no_part c.args.bytes.now c.requires.0 _ _)

-- what the next part asks
pub mark_sixteen-count-requires : goal.mark_sixteen-count-requires
mark_sixteen-count-requires c =
    let p = c.requires in
    let z = halved p.0 (omega arith) in
    let v = c.loop-part.invariant in
    let l = c.loop-part-test.true in
    let q = c.part_of-place.ensures in
    let m = c.own_mark-own in
    let k = open_count c.args.bytes.now p.0 m.ensures in
    let r = next_room _ _ _ _ _ (length c.loop-part.out) l (few_parts c.args.bytes.now p.0 _) v.1.count (omega (arith, v.0, m.auto.out, k, z.room, p.2)) in
    (part_block z _ _ _ l q.0 q.1, p.1, r)

-- a part more
pub loop-part-preserved : goal.loop-part-preserved
loop-part-preserved c =
    let p = c.requires in
    let v = c.loop-part.invariant in
    let q = c.part_of-place.ensures in
    let m = c.mark_sixteen-count in
    (m.auto.out ∙ v.0, part_more c.args.bytes.now p.0 (omega arith) _ v.1 q.0 q.1 m.ensures)

-- all four
pub returns : goal.returns
returns c =
    let p = c.requires in
    let v = c.loop-part.invariant in
    open_cut c.args.bytes.now p.0 c.own_mark-own.ensures (not-false _ c.if-not-own.false)
    (part_all c.args.bytes.now p.0 (omega arith) _ v.1 c.loop-part-test.false (omega arith))
