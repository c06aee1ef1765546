-- The digits of the roots before i are put. Assumes nothing.
use mathlib.Core.Path.{◌≡◌, refl, sym, ap, ◌∙◌}
use Prim.Native.Nat.{ℕ, ◌+◌, ◌/◌, ◌<◌}
use native.Mathlib.Omega.{arith}
use lib.ListN.{length}
use Rattle.bits.specs.Bits.{with_bits}
use Rattle.bits.proofs.Laws.{with_none}
use Rattle.def.specs.Picture.{root_count}
use Rattle.marks.proofs.Callers.{roots_told}
use Rattle.marks_rules.specs.Pictures.{joined, digits_of, picture_digits}
use Rattle.marks_rules.proofs.Pictures.{few_digits}
use Rattle.pack_rules.specs.Form.{digit_at}
use Rattle.split.specs.Picture.{roots}
use Rattle.split.proofs.Walks.{each_done}
use Rattle.pack.proofs.Writing.{few_of, count_units, more_long, put_next}
use Rattle.pack.proofs.write.put_digits.Goals as goal

pub loop-i-init : goal.loop-i-init
unfolding joined
loop-i-init c = (refl, refl, sym (with_none _ _ _), refl)

-- the digits before root i are few
pub overflow_add-at : goal.overflow_add-at
overflow_add-at c =
    let a = c.args in
    let z = c.requires.0.size in
    let samples = roots_told _ _ _ z c.root_count-i-end.ensures in
    let inside : c.loop-i.i < root_count a.w a.h = omega (arith, c.loop-i-test.true, samples) in
    let units : c.loop-i.i < roots (a.w / 4) (a.h / 4) = omega (arith, c.loop-i-test.true, count_units _ _ _ z c.root_count-i-end.ensures) in
    let f = few_digits a.splits.now (a.w / 4) (a.h / 4) c.loop-i.i in
    omega (arith, c.loop-i.invariant.1, f, inside, few_of _ _ z, c.requires.2)

pub put_root-n-requires : goal.put_root-n-requires
put_root-n-requires c =
    let a = c.args in
    let z = c.requires.0.size in
    let samples = roots_told _ _ _ z c.root_count-i-end.ensures in
    let inside : c.loop-i.i < root_count a.w a.h = omega (arith, c.loop-i-test.true, samples) in
    let units : c.loop-i.i < roots (a.w / 4) (a.h / 4) = omega (arith, c.loop-i-test.true, count_units _ _ _ z c.root_count-i-end.ensures) in
    let f = few_digits a.splits.now (a.w / 4) (a.h / 4) c.loop-i.i in
    (c.requires.0, inside, c.loop-i.invariant.3, each_done _ _ c.requires.1 _ units, omega (arith, c.loop-i.invariant.1, f, inside, few_of _ _ z, c.requires.2))

pub overflow_add-used : goal.overflow_add-used
overflow_add-used c =
    let a = c.args in
    let z = c.requires.0.size in
    let samples = roots_told _ _ _ z c.root_count-i-end.ensures in
    let inside : c.loop-i.i < root_count a.w a.h = omega (arith, c.loop-i-test.true, samples) in
    let units : c.loop-i.i < roots (a.w / 4) (a.h / 4) = omega (arith, c.loop-i-test.true, count_units _ _ _ z c.root_count-i-end.ensures) in
    let next = ap (λ (n : ℕ). n + c.put_root-n.result) c.loop-i.invariant.1
    ∙ ap (λ (n : ℕ). length (digits_of a.splits.now (a.w / 4) (a.h / 4) c.loop-i.i) + n) c.put_root-n.ensures.0 ∙ sym (more_long _ _ _ _ units) in
    let f = few_digits a.splits.now (a.w / 4) (a.h / 4) (c.loop-i.i + 1) in
    omega (arith, next, f, inside, few_of _ _ z)

pub loop-i-preserved : goal.loop-i-preserved
loop-i-preserved c =
    let a = c.args in
    let z = c.requires.0.size in
    let samples = roots_told _ _ _ z c.root_count-i-end.ensures in
    let inside : c.loop-i.i < root_count a.w a.h = omega (arith, c.loop-i-test.true, samples) in
    let units : c.loop-i.i < roots (a.w / 4) (a.h / 4) = omega (arith, c.loop-i-test.true, count_units _ _ _ z c.root_count-i-end.ensures) in
    let v = c.loop-i.invariant in
    let m = c.put_root-n in
    let next = ap (λ (n : ℕ). n + m.result) v.1 ∙ ap (λ (n : ℕ). length (digits_of a.splits.now (a.w / 4) (a.h / 4) c.loop-i.i) + n) m.ensures.0 ∙ sym (more_long _ _ _ _ units) in
    (m.auto.buf ∙ v.0, next, put_next _ _ _ _ units _ _ _ _ _ _ v.1 m.ensures.0 v.2 m.ensures.1, m.auto.list ∙ v.3)

pub returns : goal.returns
returns c =
    let a = c.args in
    let v = c.loop-i.invariant in
    let e : c.loop-i.i ≡ roots (a.w / 4) (a.h / 4) = omega (arith, c.loop-i-test.false, c.loop-i.auto, count_units _ _ _ c.requires.0.size c.root_count-i-end.ensures) in
    v.2 ∙ ap (with_bits a.buf.now a.at (digit_at (picture_digits a.splits.now (a.w / 4) (a.h / 4)))) (v.1 ∙ ap (λ (n : ℕ). length (digits_of a.splits.now (a.w / 4) (a.h / 4) n)) e)
