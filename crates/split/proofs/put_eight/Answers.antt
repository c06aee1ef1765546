-- Each way through a block of side 8: skipped, refused, a leaf, and four units. Assumes nothing.
use Rattle.std.specs.Prelude.{Err}
use mathlib.Core.Path.{◌≡◌, refl, ◌∙◌}
use native.Mathlib.Omega.{arith}
use borrow.Author.Rules.{rules}
use Rattle.split.proofs.Blocks.{cut, only_one, skip_x, skip_y, at_bad, at_leaf}
use Rattle.split.proofs.Parts.{no_part, part_more, part_refused, whole}
use Rattle.split.proofs.Stores.{stored_nothing, stored_refused, stored_as}
use Rattle.split.proofs.put_eight.Goals as goal

-- outside the picture: nothing is met
pub returns-then-w-at : goal.returns-then-w-at
returns-then-w-at c = stored_as (skip_x _ c.requires.0 c.if-w-at.true) (stored_nothing _ _)

pub returns-then-h-at : goal.returns-then-h-at
returns-then-h-at c = stored_as (skip_y _ c.requires.0 c.if-w-at.false c.if-h-at.true) (stored_nothing _ _)

-- the byte: neither 0 nor 1
pub returns-then-byte-gt1 : goal.returns-then-byte-gt1
returns-then-byte-gt1 c =
    stored_as (at_bad _ c.requires.0 c.if-w-at.false c.if-h-at.false (omega arith) _ c.get_split_mode-byte.ensures c.if-byte-gt1.true) (stored_refused _ _ _)

-- 0: a leaf
pub returns-then-byte-eq0 : goal.returns-then-byte-eq0
returns-then-byte-eq0 c =
    stored_as
    (at_leaf _ c.requires.0 c.if-w-at.false c.if-h-at.false (omega arith) _ c.get_split_mode-byte.ensures c.if-byte-eq0.true)
    c.put_leaf.ensures

-- 1: the loop over the four units
pub loop-part-init : goal.loop-part-init
loop-part-init c =
    let one = only_one _ c.if-byte-gt1.false c.if-byte-eq0.false in
    (refl, cut _ c.requires.0 c.if-w-at.false c.if-h-at.false (omega arith) _ c.get_split_mode-byte.ensures one, no_part _ _ _ _ _ _ _ _)

-- a unit that is refused ends the block
pub returns-in_err-count : goal.returns-in_err-count
returns-in_err-count c =
    let v = c.loop-part.invariant in
    let p = c.part_at-place.ensures in
    let e : c.from_residual.result ≡ Err c.in_err-count.field-0.0 = search rules in
    rw e (part_refused v.1 v.2 _ _ p.0 p.1 _ _ (c.put_unit.ensures _) _ c.loop-part-test.true c.in_err-count.was)

-- a unit more
pub loop-part-preserved : goal.loop-part-preserved
loop-part-preserved c =
    let v = c.loop-part.invariant in
    let p = c.part_at-place.ensures in
    (c.put_unit.auto.out ∙ v.0, v.1, part_more v.1 v.2 _ _ p.0 p.1 _ _ (c.put_unit.ensures _) _ c.in_ok-count.was)

-- all four
pub returns : goal.returns
returns c = let v = c.loop-part.invariant in whole v.1 v.2 c.loop-part-test.false (omega arith)
