-- The roots before i are walked to the end, and their digits are counted. Assumes nothing.
use Rattle.std.specs.Prelude.{Err}
use mathlib.Core.Path.{◌≡◌, refl, sym, ap, ap₂, ◌∙◌}
use Prim.Native.Nat.{ℕ, ◌+◌, ◌/◌, ◌<◌}
use native.Mathlib.Omega.{arith}
use borrow.Author.Rules.{rules}
use lib.ListN.{length}
use Rattle.def.specs.Picture.{root_count}
use Rattle.marks.specs.Stored.{counted}
use Rattle.marks.proofs.Callers.{roots_told}
use Rattle.marks.proofs.Growing.{counted_done, counted_refused}
use Rattle.marks_rules.specs.Pictures.{joined, digits_of}
use Rattle.marks_rules.proofs.Pictures.{few_digits}
use Rattle.split.specs.Picture.{roots, root_walk}
use Rattle.split.specs.Walk.{Walk, in_turn}
use Rattle.split.proofs.Walks.{turn_none, turn_done, turn_refused}
use Rattle.pack.proofs.Writing.{few_of, count_units, more_long}
use Rattle.pack.proofs.write.map_digits.Goals as goal

pub loop-i-init : goal.loop-i-init
unfolding joined
loop-i-init c = (refl, ap (λ (v : Walk). v.answer) (turn_none _), refl)

pub root_digits-requires : goal.root_digits-requires
root_digits-requires c =
    let a = c.args in
    let z = c.requires.size in
    let samples = roots_told _ _ _ z c.root_count-i-end.ensures in
    let inside : c.loop-i.i < root_count a.w a.h = omega (arith, c.loop-i-test.true, samples) in
    let units : c.loop-i.i < roots (a.w / 4) (a.h / 4) = omega (arith, c.loop-i-test.true, count_units _ _ _ z c.root_count-i-end.ensures) in
    (c.requires, inside, c.loop-i.invariant.2)

pub returns-in_err-digits : goal.returns-in_err-digits
returns-in_err-digits c =
    let a = c.args in
    let z = c.requires.size in
    let samples = roots_told _ _ _ z c.root_count-i-end.ensures in
    let inside : c.loop-i.i < root_count a.w a.h = omega (arith, c.loop-i-test.true, samples) in
    let units : c.loop-i.i < roots (a.w / 4) (a.h / 4) = omega (arith, c.loop-i-test.true, count_units _ _ _ z c.root_count-i-end.ensures) in
    let e : c.from_residual.result ≡ Err c.in_err-digits.field-0.0 = search rules in
    e ∙ ap (counted _)
    (sym (turn_refused _ _ _ _ units c.loop-i.invariant.1 (counted_refused _ _ _ (sym c.in_err-digits.was ∙ c.root_digits.ensures))))

pub overflow_add-digits : goal.overflow_add-digits
overflow_add-digits c =
    let a = c.args in
    let z = c.requires.size in
    let samples = roots_told _ _ _ z c.root_count-i-end.ensures in
    let inside : c.loop-i.i < root_count a.w a.h = omega (arith, c.loop-i-test.true, samples) in
    let units : c.loop-i.i < roots (a.w / 4) (a.h / 4) = omega (arith, c.loop-i-test.true, count_units _ _ _ z c.root_count-i-end.ensures) in
    let k = counted_done _ _ (root_walk a.splits.now (a.w / 4) (a.h / 4) c.loop-i.i).answer (sym c.in_ok-digits.was ∙ c.root_digits.ensures) in
    let next : c.loop-i.digits + c.in_ok-digits.field-0 ≡ length (digits_of a.splits.now (a.w / 4) (a.h / 4) (c.loop-i.i + 1)) =
    ap₂ ◌+◌ c.loop-i.invariant.0 k.1 ∙ sym (more_long _ _ _ _ units) in
    let f = few_digits a.splits.now (a.w / 4) (a.h / 4) (c.loop-i.i + 1) in
    omega (arith, next, f, inside, few_of _ _ z)

pub loop-i-preserved : goal.loop-i-preserved
loop-i-preserved c =
    let a = c.args in
    let z = c.requires.size in
    let samples = roots_told _ _ _ z c.root_count-i-end.ensures in
    let inside : c.loop-i.i < root_count a.w a.h = omega (arith, c.loop-i-test.true, samples) in
    let units : c.loop-i.i < roots (a.w / 4) (a.h / 4) = omega (arith, c.loop-i-test.true, count_units _ _ _ z c.root_count-i-end.ensures) in
    let k = counted_done _ _ (root_walk a.splits.now (a.w / 4) (a.h / 4) c.loop-i.i).answer (sym c.in_ok-digits.was ∙ c.root_digits.ensures) in
    let v = c.loop-i.invariant in
    (ap₂ ◌+◌ v.0 k.1 ∙ sym (more_long _ _ _ _ units), turn_done _ _ v.1 k.0, c.root_digits.auto.list ∙ v.2)

pub returns : goal.returns
returns c =
    let a = c.args in
    let v = c.loop-i.invariant in
    let e : c.loop-i.i ≡ roots (a.w / 4) (a.h / 4) = omega (arith, c.loop-i-test.false, c.loop-i.auto, count_units _ _ _ c.requires.size c.root_count-i-end.ensures) in
    sym (ap₂ counted (sym (v.0 ∙ ap (λ (n : ℕ). length (digits_of a.splits.now (a.w / 4) (a.h / 4) n)) e))
    (ap (λ (n : ℕ). (in_turn (root_walk a.splits.now (a.w / 4) (a.h / 4)) n).answer) (sym e) ∙ v.1))
