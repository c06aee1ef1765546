-- The roots before i are filled. Assumes nothing.
use Rattle.std.specs.Prelude.{Ok}
use mathlib.Core.Path.{◌≡◌, refl, sym, ap, ◌∙◌}
use Prim.Native.Nat.{ℕ, ◌+◌, ◌-◌, ◌*◌, ◌/◌, ◌≤◌, ◌<◌}
use native.Mathlib.Omega.{arith}
use borrow.Rule.Slice.PartMut.{same_len_mid, mid_len}
use lib.ListN.{length, take, replicate}
use lib.Seq.{take-length}
use Rattle.def.specs.Picture.{root_count}
use Rattle.marks.proofs.Callers.{roots_told}
use Rattle.marks_rules.specs.Descent.{Descent}
use Rattle.marks_rules.specs.Marks.{put_all}
use Rattle.marks_rules.specs.Pictures.{joined, root_map}
use Rattle.split.specs.Picture.{roots}
use Rattle.unpack.proofs.Reading.{bits, root_from, root_is, at_none, at_few, at_more, every_root, map_more}
use Rattle.pack.proofs.Writing.{few_of, count_units}
use Rattle.unpack.proofs.read.fill_map.Goals as goal

pub loop-i-init : goal.loop-i-init
unfolding joined
loop-i-init c = (refl, at_none _ _ _ _ _, refl, refl)

pub overflow_mul-start : goal.overflow_mul-start
overflow_mul-start c =
    let a = c.args in
    let z = c.requires.0.size in
    let inside : c.loop-i.i < root_count a.w a.h = omega (arith, c.loop-i-test.true, roots_told _ _ _ z c.root_count-i-end.ensures) in
    let units : c.loop-i.i < roots (a.w / 4) (a.h / 4) = omega (arith, c.loop-i-test.true, count_units _ _ _ z c.root_count-i-end.ensures) in
    let v = c.loop-i.invariant in
    omega (arith, inside, few_of _ _ z)

pub overflow_add-end : goal.overflow_add-end
overflow_add-end c =
    let a = c.args in
    let z = c.requires.0.size in
    let inside : c.loop-i.i < root_count a.w a.h = omega (arith, c.loop-i-test.true, roots_told _ _ _ z c.root_count-i-end.ensures) in
    let units : c.loop-i.i < roots (a.w / 4) (a.h / 4) = omega (arith, c.loop-i-test.true, count_units _ _ _ z c.root_count-i-end.ensures) in
    let v = c.loop-i.invariant in
    omega (arith, inside, few_of _ _ z)

pub slice_bounds-part-end : goal.slice_bounds-part-end
slice_bounds-part-end c =
    let a = c.args in
    let z = c.requires.0.size in
    let inside : c.loop-i.i < root_count a.w a.h = omega (arith, c.loop-i-test.true, roots_told _ _ _ z c.root_count-i-end.ensures) in
    let units : c.loop-i.i < roots (a.w / 4) (a.h / 4) = omega (arith, c.loop-i-test.true, count_units _ _ _ z c.root_count-i-end.ensures) in
    let v = c.loop-i.invariant in
    let room : 1024 * c.loop-i.i + 1024 ≤ length c.loop-i.map = omega (arith, inside, c.requires.0.bytes, v.0) in
    room

pub overflow_add-from : goal.overflow_add-from
overflow_add-from c =
    let a = c.args in
    let z = c.requires.0.size in
    let inside : c.loop-i.i < root_count a.w a.h = omega (arith, c.loop-i-test.true, roots_told _ _ _ z c.root_count-i-end.ensures) in
    let units : c.loop-i.i < roots (a.w / 4) (a.h / 4) = omega (arith, c.loop-i-test.true, count_units _ _ _ z c.root_count-i-end.ensures) in
    let v = c.loop-i.invariant in
    let p = c.requires in
    omega (arith, at_few _ _ _ _ _ v.1, inside, few_of _ _ z, p.2, p.1)

pub fill_root-n-requires : goal.fill_root-n-requires
fill_root-n-requires c =
    let a = c.args in
    let z = c.requires.0.size in
    let inside : c.loop-i.i < root_count a.w a.h = omega (arith, c.loop-i-test.true, roots_told _ _ _ z c.root_count-i-end.ensures) in
    let units : c.loop-i.i < roots (a.w / 4) (a.h / 4) = omega (arith, c.loop-i-test.true, count_units _ _ _ z c.root_count-i-end.ensures) in
    let v = c.loop-i.invariant in
    let room : 1024 * c.loop-i.i + 1024 ≤ length c.loop-i.map = omega (arith, inside, c.requires.0.bytes, v.0) in
    let goes : (root_from (a.w / 4) (a.h / 4) a.src.now a.from a.to c.loop-i.i c.loop-i.used).walk.answer ≡ Ok tt =
    ap (λ (d : Descent). d.walk.answer) (sym (root_is _ _ _ _ _ v.1)) ∙ every_root _ _ _ _ c.requires.3 _ units in
    let i = c.loop-i.i in
    let e : 1024 * i + 1024 - 1024 * i ≡ 1024 = omega arith in
    (z, inside, mid_len (1024 * i) (1024 * i + 1024) c.loop-i.map room ∙ e, v.3, goes)

pub overflow_add-used : goal.overflow_add-used
overflow_add-used c =
    let a = c.args in
    let z = c.requires.0.size in
    let inside : c.loop-i.i < root_count a.w a.h = omega (arith, c.loop-i-test.true, roots_told _ _ _ z c.root_count-i-end.ensures) in
    let units : c.loop-i.i < roots (a.w / 4) (a.h / 4) = omega (arith, c.loop-i-test.true, count_units _ _ _ z c.root_count-i-end.ensures) in
    let v = c.loop-i.invariant in
    let goes : (root_from (a.w / 4) (a.h / 4) a.src.now a.from a.to c.loop-i.i c.loop-i.used).walk.answer ≡ Ok tt =
    ap (λ (d : Descent). d.walk.answer) (sym (root_is _ _ _ _ _ v.1)) ∙ every_root _ _ _ _ c.requires.3 _ units in
    omega (arith, at_few _ _ _ _ _ (at_more _ _ _ _ _ v.1 goes _ c.fill_root-n.ensures.0), inside, few_of _ _ z)

pub loop-i-preserved : goal.loop-i-preserved
loop-i-preserved c =
    let a = c.args in
    let z = c.requires.0.size in
    let inside : c.loop-i.i < root_count a.w a.h = omega (arith, c.loop-i-test.true, roots_told _ _ _ z c.root_count-i-end.ensures) in
    let units : c.loop-i.i < roots (a.w / 4) (a.h / 4) = omega (arith, c.loop-i-test.true, count_units _ _ _ z c.root_count-i-end.ensures) in
    let v = c.loop-i.invariant in
    let room : 1024 * c.loop-i.i + 1024 ≤ length c.loop-i.map = omega (arith, inside, c.requires.0.bytes, v.0) in
    let goes : (root_from (a.w / 4) (a.h / 4) a.src.now a.from a.to c.loop-i.i c.loop-i.used).walk.answer ≡ Ok tt =
    ap (λ (d : Descent). d.walk.answer) (sym (root_is _ _ _ _ _ v.1)) ∙ every_root _ _ _ _ c.requires.3 _ units in
    let l = c.loop-i in
    let m = c.fill_root-n in (
      same_len_mid (1024 * l.i) (1024 * l.i + 1024 - 1024 * l.i) l.map m.new.map m.auto.map ∙ v.0,
      at_more _ _ _ _ _ v.1 goes _ m.ensures.0,
      map_more _ _ _ l.map m.new.map l.i (1024 * l.i + 1024 - 1024 * l.i) room v.2
          (m.ensures.1 ∙ ap (λ (d : Descent). put_all d.marks (replicate 1024 0)) (sym (root_is _ _ _ _ _ v.1))),
      m.auto.list ∙ v.3,
    )

pub returns : goal.returns
returns c =
    let a = c.args in
    let v = c.loop-i.invariant in
    let z = c.requires.0.size in
    let e : c.loop-i.i ≡ roots (a.w / 4) (a.h / 4) = omega (arith, c.loop-i-test.false, c.loop-i.auto, count_units _ _ _ z c.root_count-i-end.ensures) in
    let f : c.loop-i.i ≡ root_count a.w a.h = omega (arith, c.loop-i-test.false, c.loop-i.auto, roots_told _ _ _ z c.root_count-i-end.ensures) in
    let n : length c.loop-i.map ≡ 1024 * c.loop-i.i = omega (arith, v.0, c.requires.0.bytes, f) in
    sym (take-length c.loop-i.map) ∙ ap (λ (k : ℕ). take k c.loop-i.map) n ∙ v.2
    ∙ ap (joined (root_map (a.w / 4) (a.h / 4) (bits (a.w / 4) (a.h / 4) a.src.now a.from a.to))) e
