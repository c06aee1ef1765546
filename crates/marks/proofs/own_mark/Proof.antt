-- `marks::own_mark` meets its contract: a block that starts outside the picture has no mark, and any other has one. Assumes nothing.
use Prim.Native.Nat.{◌<◌}
use borrow.Author.Rules.{rules}
use Rattle.split.proofs.Blocks.{started}
use Rattle.marks.proofs.Marking.{opened_none, opened}
use Rattle.marks.proofs.own_mark.Statement.{statement}
use Rattle.marks.proofs.own_mark.Tie as tie

returns : tie.Need-returns-then-w-at
returns c = opened_none c.args.bytes.now c.requires.0 c.if-w-at.true _ _

-- the block starts in the picture
inside : (c : tie.Else-w-at) → let a = c.args in (a.at.x.0 < a.w) × (a.at.y.0 < a.h)
inside c = started _ _ _ _ c.if-w-at.false

returns-2 : tie.Need-returns
returns-2 c =
    let i = inside c.before.before.before.before.before.before.before.before.before.before.before in
    let m = c.mended-byte.ensures in
    let b = c.byte_place-place.ensures in
    opened c.args.bytes.now c.requires.0 c.requires.1 i.0 i.1 _ _ b.0 m.0 c.put_mark.ensures m.1

pub own_mark_spec : {M : Type 1} → statement M
own_mark_spec =
    tie.close
    (tie.spec
    returns
    (λ c κs. search rules)
    (λ c. search rules)
    (λ c κs. search rules)
    (λ c κs. search rules)
    (λ c. search rules)
    returns-2)
