-- The bits before `at` are 0. Assumes nothing.
use mathlib.Core.Path.{◌≡◌, sym, ◌∙◌}
use Prim.Native.Nat.{◌-◌}
use native.Mathlib.Omega.{arith}
use Rattle.unpack.proofs.Zeros.{zeros_none, zeros_no, zeros_on, zeros_all}
use Rattle.unpack.proofs.read.zeros_ok.Goals as goal

pub loop-at-init : goal.loop-at-init
loop-at-init c = (omega arith, zeros_none _ _)

pub returns-then-get_bit-ne0 : goal.returns-then-get_bit-ne0
returns-then-get_bit-ne0 c = zeros_no _ _ _ c.loop-at.auto.at _ c.loop-at-test.true (λ e. c.if-get_bit-ne0.true (c.get_bit.ensures ∙ e))

pub loop-at-preserved : goal.loop-at-preserved
loop-at-preserved c =
    let v = c.loop-at.invariant in
    let l = c.loop-at.auto.at in
    (omega (arith, l, c.loop-at-test.true), zeros_on _ _ _ l v.1 (sym c.get_bit.ensures ∙ c.if-get_bit-ne0.false))

pub returns : goal.returns
returns c =
    let a = c.args in
    let v = c.loop-at.invariant in
    let e : c.loop-at.at - a.from ≡ a.to - a.from = omega (arith, v.0, c.loop-at-test.false) in
    zeros_all _ a.from c.loop-at.at a.to e v.1
