-- Each way through the walk of a block: outside the picture, a byte that is none, a leaf, and four parts. Assumes nothing.
use Rattle.std.specs.Prelude.{Err}
use mathlib.Core.Path.{◌≡◌, refl, subst, ◌∙◌}
use Prim.Native.Nat.{ℕ, ◌+◌, ◌-◌, ◌/◌, ◌<◌}
use native.Mathlib.Omega.{arith}
use borrow.Author.Rules.{rules}
use Rattle.split.specs.Stored.{Stored}
use Rattle.split.specs.Walk.{walk}
use Rattle.split.proofs.Blocks.{cut, as_eight, room_eight, room_one, only_one, has_byte, not_eight, skip, started, at_bad, at_leaf}
use Rattle.split.proofs.Parts.{no_part, part_block, part_room, part_more, part_refused, whole}
use Rattle.split.proofs.Stores.{stored_nothing, stored_refused, stored_as}
use Rattle.split.proofs.+walk_block.Goals as goal
use Rattle.split.proofs.+walk_block.Goals.{then-level-eq2, else-level-eq2}

-- outside the picture, to the right or below: nothing is met
pub returns-then-w-at : goal.returns-then-w-at
returns-then-w-at t c = stored_as (skip _ c.requires.0 c.if-w-at.true) (stored_nothing _ _)

-- the byte: neither 0 nor 1
pub returns-then-byte-gt1 : goal.returns-then-byte-gt1
returns-then-byte-gt1 t c =
    let i = started _ _ _ _ c.if-w-at.false in
    let p = c.requires in
    stored_as (at_bad _ p.0 i.0 i.1 (has_byte p.1) _ c.get_split_mode-byte.ensures c.if-byte-gt1.true) (stored_refused _ _ _)

-- 0: a leaf
pub put_leaf-requires : goal.put_leaf-requires
put_leaf-requires t c = let p = c.requires in (p.0, room_one p.0 _ _ p.3)

pub returns-then-byte-eq0 : goal.returns-then-byte-eq0
returns-then-byte-eq0 t c =
    let i = started _ _ _ _ c.if-w-at.false in
    let p = c.requires in
    stored_as (at_leaf _ p.0 i.0 i.1 (has_byte p.1) _ c.get_split_mode-byte.ensures c.if-byte-eq0.true) c.put_leaf.ensures

-- 1: the loop over the four parts
pub loop-part-init : goal.loop-part-init
loop-part-init t c =
    let i = started _ _ _ _ c.if-w-at.false in
    let p = c.requires in
    (refl, cut _ p.0 i.0 i.1 (has_byte p.1) _ c.get_split_mode-byte.ensures (only_one _ c.if-byte-gt1.false c.if-byte-eq0.false), no_part _ _ _ _ _ _ _ _)

-- what the next part asks, of side 8
pub put_eight-walked-requires : goal.put_eight-walked-requires
put_eight-walked-requires t c =
    let v = c.loop-part.invariant in
    let l = c.loop-part-test.true in
    let b = part_block v.1 _ _ _ l c.part_at-place.ensures.0 c.part_at-place.ensures.1 in
    let r = part_room v.1 v.2 _ l (omega (arith, v.0, c.requires.3)) in
    let e : c.args.level + 1 ≡ 3 = omega (arith, c.if-level-eq2.true) in
    (as_eight b e, c.requires.2, room_eight b e _ _ r)

-- and as a block that is walked: half the side
pub walk_block-walked-requires : goal.walk_block-walked-requires
walk_block-walked-requires t c =
    let v = c.loop-part.invariant in
    let l = c.loop-part-test.true in
    let b = part_block v.1 _ _ _ l c.part_at-place.ensures.0 c.part_at-place.ensures.1 in
    let r = part_room v.1 v.2 _ l (omega (arith, v.0, c.requires.3)) in
    (subst (λ (m : ℕ). c.args.side / 2 < m) c.decreases v.1.less, (b, not_eight _ c.requires.1 c.if-level-eq2.false, c.requires.2, r))

-- a part that is refused ends the walk
pub returns-in_err-count : goal.returns-in_err-count
returns-in_err-count t c =
    let a = c.args in
    let q = c.part_at-place.result in
    let v = c.loop-part.invariant in
    let s : Stored (walk a.bytes.now (a.w / 4) (a.h / 4) (4 - (a.level + 1)) (q.x.0 / 4) (q.y.0 / 4)) c.loop-part.out c.loop-part.count c.if-level-eq2.out c.if-level-eq2.walked =
    elim c.if-level-eq2.branch [
      | then-level-eq2 w ↦ rw (w.out-is, w.walked-is) (rw w.if-level-eq2.true w.put_eight-walked.ensures)
      | else-level-eq2 w ↦ rw (w.out-is, w.walked-is) w.walk_block-walked.ensures
    ] in
    let e : c.from_residual.result ≡ Err c.in_err-count.field-0.0 = search rules in
    rw e (part_refused v.1 v.2 _ _ c.part_at-place.ensures.0 c.part_at-place.ensures.1 _ _ s _ c.loop-part-test.true c.in_err-count.was)

-- a part more
pub loop-part-preserved : goal.loop-part-preserved
loop-part-preserved t c =
    let a = c.args in
    let q = c.part_at-place.result in
    let v = c.loop-part.invariant in
    let s : Stored (walk a.bytes.now (a.w / 4) (a.h / 4) (4 - (a.level + 1)) (q.x.0 / 4) (q.y.0 / 4)) c.loop-part.out c.loop-part.count c.if-level-eq2.out c.if-level-eq2.walked =
    elim c.if-level-eq2.branch [
      | then-level-eq2 w ↦ rw (w.out-is, w.walked-is) (rw w.if-level-eq2.true w.put_eight-walked.ensures)
      | else-level-eq2 w ↦ rw (w.out-is, w.walked-is) w.walk_block-walked.ensures
    ] in
    (c.if-level-eq2.auto.out ∙ v.0, v.1, part_more v.1 v.2 _ _ c.part_at-place.ensures.0 c.part_at-place.ensures.1 _ _ s _ c.in_ok-count.was)

-- all four
pub returns : goal.returns
returns t c = let v = c.loop-part.invariant in whole v.1 v.2 c.loop-part-test.false (omega arith)
