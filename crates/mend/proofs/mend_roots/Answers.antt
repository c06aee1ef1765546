-- The roots before i are mended, and their changes listed. Assumes nothing.
use mathlib.Core.Path.{◌≡◌, refl, sym, ap, ◌∙◌}
use Prim.Native.Nat.{ℕ, ◌+◌, ◌-◌, ◌*◌, ◌/◌, ◌≤◌, ◌<◌}
use native.Mathlib.Omega.{arith}
use borrow.Rule.Slice.PartMut.{same_len_mid, mid_len}
use lib.ListN.{length, take, drop}
use lib.Seq.{take-length}
use Rattle.def.specs.Picture.{root_count}
use Rattle.marks.proofs.Callers.{roots_told}
use Rattle.marks_rules.specs.Pictures.{joined}
use Rattle.split.specs.Picture.{roots}
use Rattle.mend.specs.Changes.{mend_root, changes_of}
use Rattle.mend.proofs.Calls.{few_of, count_units, few_changes, listed_more}
use Rattle.mend.proofs.Lists.{listed_none, listed_as, listed_long, roots_more}
use Rattle.mend.proofs.mend_roots.Goals as goal

back : (i : ℕ) → 1024 * i + 1024 - 1024 * i ≡ 1024
back i = omega arith

pub loop-i-init : goal.loop-i-init
unfolding joined
loop-i-init c = (refl, refl, refl, listed_none _ _)

pub overflow_mul-start : goal.overflow_mul-start
overflow_mul-start c =
    let a = c.args in
    let z = c.requires.size in
    let v = c.loop-i.invariant in
    let inside : c.loop-i.i < root_count a.w a.h = omega (arith, c.loop-i-test.true, roots_told _ _ _ z c.root_count-i-end.ensures) in
    omega (arith, inside, few_of _ _ z)

pub overflow_add-end : goal.overflow_add-end
overflow_add-end c =
    let a = c.args in
    let z = c.requires.size in
    let v = c.loop-i.invariant in
    let inside : c.loop-i.i < root_count a.w a.h = omega (arith, c.loop-i-test.true, roots_told _ _ _ z c.root_count-i-end.ensures) in
    omega (arith, inside, few_of _ _ z)

pub slice_bounds-mend_root-end : goal.slice_bounds-mend_root-end
slice_bounds-mend_root-end c =
    let a = c.args in
    let z = c.requires.size in
    let v = c.loop-i.invariant in
    let inside : c.loop-i.i < root_count a.w a.h = omega (arith, c.loop-i-test.true, roots_told _ _ _ z c.root_count-i-end.ensures) in
    let room : 1024 * c.loop-i.i + 1024 ≤ length c.loop-i.out = omega (arith, inside, c.requires.room, v.0) in
    room

pub mend_root-count-requires : goal.mend_root-count-requires
mend_root-count-requires c =
    let a = c.args in
    let z = c.requires.size in
    let v = c.loop-i.invariant in
    let inside : c.loop-i.i < root_count a.w a.h = omega (arith, c.loop-i-test.true, roots_told _ _ _ z c.root_count-i-end.ensures) in
    let room : 1024 * c.loop-i.i + 1024 ≤ length c.loop-i.out = omega (arith, inside, c.requires.room, v.0) in
    let own : length (take (1024 * c.loop-i.i + 1024 - 1024 * c.loop-i.i) (drop (1024 * c.loop-i.i) c.loop-i.out)) ≡ 1024 =
    mid_len (1024 * c.loop-i.i) (1024 * c.loop-i.i + 1024) c.loop-i.out room ∙ back c.loop-i.i in
    let f = few_changes a.splits.now (a.w / 4) (a.h / 4) c.loop-i.i in
    (z, c.requires.bytes, inside, own, omega (arith, v.3.count, f, inside, c.requires.rows, v.1))

pub loop-i-preserved : goal.loop-i-preserved
loop-i-preserved c =
    let a = c.args in
    let z = c.requires.size in
    let v = c.loop-i.invariant in
    let inside : c.loop-i.i < root_count a.w a.h = omega (arith, c.loop-i-test.true, roots_told _ _ _ z c.root_count-i-end.ensures) in
    let room : 1024 * c.loop-i.i + 1024 ≤ length c.loop-i.out = omega (arith, inside, c.requires.room, v.0) in
    let own : length (take (1024 * c.loop-i.i + 1024 - 1024 * c.loop-i.i) (drop (1024 * c.loop-i.i) c.loop-i.out)) ≡ 1024 =
    mid_len (1024 * c.loop-i.i) (1024 * c.loop-i.i + 1024) c.loop-i.out room ∙ back c.loop-i.i in
    let l = c.loop-i in
    let m = c.mend_root-count in
    let k = m.auto.out in (
      same_len_mid (1024 * l.i) (1024 * l.i + 1024 - 1024 * l.i) l.out m.new.out k ∙ v.0,
      listed_long m.ensures.1 ∙ v.1,
      roots_more (mend_root a.splits.now (a.w / 4) (a.h / 4)) l.out m.new.out l.i (1024 * l.i + 1024 - 1024 * l.i) room (k ∙ own) v.2 m.ensures.0,
      listed_more a.splits.now (a.w / 4) (a.h / 4) l.i v.3 m.ensures.1,
    )

pub returns : goal.returns
returns c =
    let a = c.args in
    let v = c.loop-i.invariant in
    let z = c.requires.size in
    let e : c.loop-i.i ≡ roots (a.w / 4) (a.h / 4) = omega (arith, c.loop-i-test.false, c.loop-i.auto, count_units _ _ _ z c.root_count-i-end.ensures) in
    let f : c.loop-i.i ≡ root_count a.w a.h = omega (arith, c.loop-i-test.false, c.loop-i.auto, roots_told _ _ _ z c.root_count-i-end.ensures) in
    let n : length c.loop-i.out ≡ 1024 * c.loop-i.i = omega (arith, v.0, c.requires.room, f) in (
      sym (take-length c.loop-i.out) ∙ ap (λ (k : ℕ). take k c.loop-i.out) n ∙ v.2 ∙ ap (joined (mend_root a.splits.now (a.w / 4) (a.h / 4))) e,
      listed_as (ap (changes_of a.splits.now (a.w / 4) (a.h / 4)) (sym e)) v.3,
    )
