-- A block's own digit, and those of its parts, of side 16. Assumes nothing.
use Rattle.std.specs.Prelude.{Err}
use mathlib.Core.Path.{◌≡◌, refl}
use native.Mathlib.Omega.{arith}
use borrow.Author.Rules.{rules}
use borrow.Author.Tests.{not-true, not-false}
use Rattle.bits.specs.Bits.{bits_from}
use Rattle.marks.proofs.Blocks.{halved}
use Rattle.marks.proofs.Growing.{grew_count, divided_count, divided_with, few_taken, no_part, part_more, part_refused, part_all}
use Rattle.marks.proofs.Marking.{room_one, next_room, part_block}
use Rattle.marks.proofs.grow_thirty_two.Goals as goal

pub own_digit-requires : goal.own_digit-requires
own_digit-requires c = let p = c.requires in (p.0, omega arith, p.1, room_one (halved p.0 (omega arith)) _ _ p.2)

-- its own digit is refused
pub returns-in_err-own : goal.returns-in_err-own
returns-in_err-own c =
    let e : c.from_residual.result ≡ Err c.in_err-own.field-0.0 = search rules in
    rw e (c.in_err-own.ensures.whole refl)

-- not cut: its own digit is all that it has
pub returns-then-not-own : goal.returns-then-not-own
returns-then-not-own c = c.in_ok-own.ensures.whole (not-true _ c.if-not-own.true)

-- the loop over the four parts
pub loop-part-init : goal.loop-part-init
loop-part-init c = let a = c.args in no_part (bits_from a.src.now a.from a.count) c.requires.0 _ _ refl

-- what the next part asks
pub grow_sixteen-requires : goal.grow_sixteen-requires
grow_sixteen-requires c =
    let a = c.args in
    let ds = bits_from a.src.now a.from a.count in
    let p = c.requires in
    let l = c.loop-part-test.true in
    let q = c.part_of-place.ensures in
    let z = halved p.0 (omega arith) in
    let d = c.in_ok-own.ensures.divided (not-false _ c.if-not-own.false) in
    let r = next_room _ _ _ _ _ 85 l (few_taken ds p.0 c.loop-part.part c.in_ok-own.own.count) (grew_count refl c.loop-part.invariant) (omega (arith, divided_count d, z.room, p.2)) in
    (part_block z _ _ _ l q.0 q.1, p.1, r)

-- a part that is refused ends the block
pub returns-in_err-taken : goal.returns-in_err-taken
returns-in_err-taken c =
    let a = c.args in
    let ds = bits_from a.src.now a.from a.count in
    let p = c.requires in
    let l = c.loop-part-test.true in
    let q = c.part_of-place.ensures in
    let d = c.in_ok-own.ensures.divided (not-false _ c.if-not-own.false) in
    let r = c.in_err-taken.field-0.0 in
    let e : c.from_residual-in_err-taken.result ≡ Err r = search rules in
    rw e (divided_with d (part_refused ds p.0 (omega arith) _ (part_more ds p.0 (omega arith) _ c.loop-part.invariant refl q.0 q.1 c.in_err-taken.ensures) r (omega (arith, l)) refl))

-- a part more
pub loop-part-preserved : goal.loop-part-preserved
loop-part-preserved c =
    let a = c.args in
    let ds = bits_from a.src.now a.from a.count in
    let p = c.requires in
    let l = c.loop-part-test.true in
    let q = c.part_of-place.ensures in
    part_more ds p.0 (omega arith) _ c.loop-part.invariant refl q.0 q.1 c.in_ok-taken.ensures

-- all four
pub returns : goal.returns
returns c =
    let a = c.args in
    let d = c.in_ok-own.ensures.divided (not-false _ c.if-not-own.false) in
    divided_with d (part_all (bits_from a.src.now a.from a.count) c.requires.0 (omega arith) _ c.loop-part.invariant c.loop-part-test.false (omega arith))
