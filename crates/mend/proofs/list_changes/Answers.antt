-- The changes of the marks before this one are listed. Assumes nothing.
use mathlib.Core.List.{List, map}
use mathlib.Core.Path.{◌≡◌, refl, sym, ap, ap₂, ◌∙◌}
use Prim.Native.Nat.{ℕ}
use native.Mathlib.Omega.{arith}
use lib.ListN.{length, get_or, take}
use lib.Seq.{take-length}
use Rattle.marks.specs.Stored.{mark_from}
use Rattle.mend.specs.Changes.{change_of, changes_in}
use Rattle.mend.proofs.Lists.{listed_none, listed_as, listed_then, listed_long, changes_none, changes_more, change_few}
use Rattle.mend.proofs.list_changes.Goals as goal

pub loop-mark-init : goal.loop-mark-init
loop-mark-init c = (refl, listed_as (changes_none c.args.bytes.now c.args.root c.args.marks.now) (listed_none _ _), omega arith)

pub put_change-met-requires : goal.put_change-met-requires
put_change-met-requires c =
    let p = c.requires in
    let v = c.loop-mark.invariant in
    let q = p.1 c.loop-mark.mark-index c.loop-mark-test.true in
    (p.2, omega (arith, q, c.mark_place-place.ensures), omega (arith, p.3, v.0, v.2, c.loop-mark-test.true))

pub loop-mark-preserved : goal.loop-mark-preserved
loop-mark-preserved c =
    let a = c.args in
    let v = c.loop-mark.invariant in
    let j = c.loop-mark.mark-index in
    let m = mark_from (get_or a.marks.now j 0) in
    let d = listed_as (sym (ap₂ (λ (x y : ℕ). change_of a.root x (get_or a.bytes.now x 0) y) c.mark_place-place.ensures c.mark_byte.ensures)) c.put_change-met.ensures in
    let f = change_few a.root m.place (get_or a.bytes.now m.place 0) m.byte in (
      listed_long d ∙ v.0,
      listed_as (changes_more a.bytes.now a.root a.marks.now j c.loop-mark-test.true) (listed_then v.1 d),
      omega (arith, d.count, f, v.2),
    )

pub returns : goal.returns
returns c =
    let a = c.args in
    let l = a.marks.now in
    let e : c.loop-mark.mark-index ≡ length l = omega (arith, c.loop-mark-test.false, c.loop-mark.auto) in
    listed_as (ap (λ (z : List ℕ). changes_in a.bytes.now a.root (map mark_from z)) (sym (ap (λ (k : ℕ). take k l) e ∙ take-length l))) c.loop-mark.invariant.1
