-- The bytes of the marks before this one are put. Assumes nothing.
use mathlib.Core.List.{List, map}
use mathlib.Core.Path.{◌≡◌, refl, ap, ap₂, ◌∙◌}
use Prim.Native.Nat.{ℕ}
use native.Mathlib.Omega.{arith}
use lib.ListN.{length, get_or, set, take, length-set}
use lib.Seq.{take-length}
use Rattle.laws.specs.Orders.{run}
use Rattle.marks.specs.Stored.{mark_from}
use Rattle.marks_rules.specs.Marks.{put_all}
use Rattle.mend.proofs.Lists.{put_more}
use Rattle.mend.proofs.put_marks.Goals as goal

pub loop-mark-init : goal.loop-mark-init
unfolding put_all run
loop-mark-init c = (c.requires.0, refl)

pub loop-mark-preserved : goal.loop-mark-preserved
loop-mark-preserved c =
    let v = c.loop-mark.invariant in
    let j = c.loop-mark.mark-index in
    let m = mark_from (get_or c.args.marks.now j 0) in (
      simp length-set v.0,
      ap₂ (set c.loop-mark.out) c.mark_place.ensures c.mark_byte.ensures ∙ ap (λ (z : List ℕ). set z m.place m.byte) v.1
          ∙ put_more c.args.marks.now c.args.out.now j c.loop-mark-test.true,
    )

pub returns : goal.returns
returns c =
    let l = c.args.marks.now in
    let e : c.loop-mark.mark-index ≡ length l = omega (arith, c.loop-mark-test.false, c.loop-mark.auto) in
    c.loop-mark.invariant.1 ∙ ap (λ (z : List ℕ). put_all (map mark_from z) c.args.out.now) (ap (λ (k : ℕ). take k l) e ∙ take-length l)
