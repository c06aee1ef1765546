-- The roots before i have taken their digits. Assumes nothing.
use Rattle.std.specs.Prelude.{Err}
use mathlib.Core.Path.{◌≡◌, refl, sym, ap, ap₂, ◌∙◌}
use Prim.Native.Nat.{ℕ, ◌/◌, ◌<◌}
use native.Mathlib.Omega.{arith}
use borrow.Author.Rules.{rules}
use lib.ListN.{length}
use Rattle.def.specs.Picture.{root_count}
use Rattle.marks.specs.Stored.{counted}
use Rattle.marks.proofs.Callers.{roots_told, take_told}
use Rattle.marks.proofs.Growing.{counted_done, counted_refused}
use Rattle.marks_rules.specs.Descent.{Descent}
use Rattle.marks_rules.specs.Pictures.{upto}
use Rattle.split.specs.Picture.{roots}
use Rattle.unpack.proofs.Reading.{bits, root_from, at_none, at_few, at_more, at_stop}
use Rattle.pack.proofs.Writing.{few_of, count_units}
use Rattle.unpack.proofs.read.map_taken.Goals as goal

pub loop-i-init : goal.loop-i-init
loop-i-init c = (refl, at_none _ _ _ _ _)

pub overflow_add-from : goal.overflow_add-from
overflow_add-from c =
    let a = c.args in
    let z = c.requires.0 in
    let inside : c.loop-i.i < root_count a.w a.h = omega (arith, c.loop-i-test.true, roots_told _ _ _ z c.root_count-i-end.ensures) in
    let units : c.loop-i.i < roots (a.w / 4) (a.h / 4) = omega (arith, c.loop-i-test.true, count_units _ _ _ z c.root_count-i-end.ensures) in
    omega (arith, at_few _ _ _ _ _ c.loop-i.invariant.1, inside, few_of _ _ z, c.requires)

pub returns-in_err-used : goal.returns-in_err-used
returns-in_err-used c =
    let a = c.args in
    let z = c.requires.0 in
    let inside : c.loop-i.i < root_count a.w a.h = omega (arith, c.loop-i-test.true, roots_told _ _ _ z c.root_count-i-end.ensures) in
    let units : c.loop-i.i < roots (a.w / 4) (a.h / 4) = omega (arith, c.loop-i-test.true, count_units _ _ _ z c.root_count-i-end.ensures) in
    let v = c.loop-i.invariant in
    let d = root_from (a.w / 4) (a.h / 4) a.src.now a.from a.to c.loop-i.i c.loop-i.used in
    let t : c.take_marks.result ≡ counted (length d.marks) d.walk.answer = (take_told _ c.take_marks.result _ z v.0 inside c.take_marks.ensures).0 in
    let e : c.from_residual.result ≡ Err c.in_err-used.field-0.0 = search rules in
    e ∙ ap (counted _) (sym (at_stop _ _ _ _ _ v.1 _ _ units (counted_refused _ _ _ (sym c.in_err-used.was ∙ t))))

pub overflow_add-used : goal.overflow_add-used
overflow_add-used c =
    let a = c.args in
    let z = c.requires.0 in
    let inside : c.loop-i.i < root_count a.w a.h = omega (arith, c.loop-i-test.true, roots_told _ _ _ z c.root_count-i-end.ensures) in
    let units : c.loop-i.i < roots (a.w / 4) (a.h / 4) = omega (arith, c.loop-i-test.true, count_units _ _ _ z c.root_count-i-end.ensures) in
    let v = c.loop-i.invariant in
    let d = root_from (a.w / 4) (a.h / 4) a.src.now a.from a.to c.loop-i.i c.loop-i.used in
    let t : c.take_marks.result ≡ counted (length d.marks) d.walk.answer = (take_told _ c.take_marks.result _ z v.0 inside c.take_marks.ensures).0 in
    let k = counted_done _ _ d.walk.answer (sym c.in_ok-used.was ∙ t) in
    omega (arith, at_few _ _ _ _ _ (at_more _ _ _ _ _ v.1 k.0 _ k.1), inside, few_of _ _ z)

pub loop-i-preserved : goal.loop-i-preserved
loop-i-preserved c =
    let a = c.args in
    let z = c.requires.0 in
    let inside : c.loop-i.i < root_count a.w a.h = omega (arith, c.loop-i-test.true, roots_told _ _ _ z c.root_count-i-end.ensures) in
    let units : c.loop-i.i < roots (a.w / 4) (a.h / 4) = omega (arith, c.loop-i-test.true, count_units _ _ _ z c.root_count-i-end.ensures) in
    let v = c.loop-i.invariant in
    let d = root_from (a.w / 4) (a.h / 4) a.src.now a.from a.to c.loop-i.i c.loop-i.used in
    let t : c.take_marks.result ≡ counted (length d.marks) d.walk.answer = (take_told _ c.take_marks.result _ z v.0 inside c.take_marks.ensures).0 in
    let k = counted_done _ _ d.walk.answer (sym c.in_ok-used.was ∙ t) in
    (c.take_marks.auto.out ∙ v.0, at_more _ _ _ _ _ v.1 k.0 _ k.1)

pub returns : goal.returns
returns c =
    let a = c.args in
    let v = c.loop-i.invariant in
    let e : c.loop-i.i ≡ roots (a.w / 4) (a.h / 4) = omega (arith, c.loop-i-test.false, c.loop-i.auto, count_units _ _ _ c.requires.0 c.root_count-i-end.ensures) in
    let u : ℕ → Descent = λ n. upto (a.w / 4) (a.h / 4) (bits (a.w / 4) (a.h / 4) a.src.now a.from a.to) n in
    sym (ap₂ counted (sym (v.1.count ∙ ap (λ (n : ℕ). length (u n).marks) e)) (ap (λ (n : ℕ). (u n).walk.answer) (sym e) ∙ v.1.done))
