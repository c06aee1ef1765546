-- The bytes of the marks before this one are put. Assumes nothing.
use mathlib.Core.List.{List, map}
use mathlib.Core.Path.{◌≡◌, ap, ap₂, ◌∙◌}
use Prim.Native.Nat.{ℕ}
use native.Mathlib.Omega.{arith}
use lib.ListN.{length, get_or, set, take, replicate, length-set}
use lib.Seq.{take-length}
use Rattle.laws.specs.Orders.{run}
use Rattle.marks.specs.Stored.{mark_from}
use Rattle.marks_rules.specs.Marks.{put_all}
use Rattle.unpack.proofs.Reading.{fill_more}
use Rattle.unpack.proofs.read.fill_list.Goals as goal

pub loop-mark-init : goal.loop-mark-init
unfolding put_all run
loop-mark-init c =
    let p = c.requires.0 in
    (c.fill.ensures.len ∙ p, c.fill.ensures.after (λ y e. e) ∙ ap (λ (n : ℕ). replicate n 0) p)

pub loop-mark-preserved : goal.loop-mark-preserved
loop-mark-preserved c =
    let v = c.loop-mark.invariant in
    let j = c.loop-mark.mark-index in
    let m = mark_from (get_or c.args.marks.now j 0) in (
      simp length-set v.0,
      ap₂ (set c.loop-mark.out) c.mark_place.ensures c.mark_byte.ensures ∙ ap (λ (z : List ℕ). set z m.place m.byte) v.1
          ∙ fill_more c.args.marks.now (replicate 1024 0) j c.loop-mark-test.true,
    )

pub returns : goal.returns
returns c =
    let l = c.args.marks.now in
    let e : c.loop-mark.mark-index ≡ length l = omega (arith, c.loop-mark-test.false, c.loop-mark.auto) in
    c.loop-mark.invariant.1 ∙ ap (λ (z : List ℕ). put_all (map mark_from z) (replicate 1024 0)) (ap (λ (k : ℕ). take k l) e ∙ take-length l)
