-- The bits before `at` are put. Assumes nothing.
use mathlib.Core.List.{List}
use mathlib.Core.Path.{◌≡◌, refl, sym, ap, ◌∙◌}
use Prim.Native.Nat.{ℕ, ◌+◌, ◌-◌}
use native.Mathlib.Omega.{arith}
use lib.ListN.{length}
use Rattle.bits.specs.Bits.{with_bit, with_bits}
use Rattle.bits.proofs.Laws.{length_bit, with_none, with_more}
use Rattle.pack.proofs.write.put_zeros.Goals as goal

pub loop-at-init : goal.loop-at-init
loop-at-init c =
    let z : c.args.from - c.args.from ≡ 0 = omega arith in
    (omega arith, refl, sym (ap (with_bits _ _ (λ (i : ℕ). 0)) z ∙ with_none _ _ _))

pub loop-at-preserved : goal.loop-at-preserved
loop-at-preserved c =
    let v = c.loop-at.invariant in
    let e = c.put_bit.ensures in
    let a = c.args in
    let at = c.loop-at.at in
    let q : at ≡ a.from + (at - a.from) = omega (arith, c.loop-at.auto.at) in
    let r : at + 1 - a.from ≡ at - a.from + 1 = omega (arith, c.loop-at.auto.at) in (
      omega (arith, c.loop-at.auto.at, c.loop-at-test.true),
      ap length e ∙ length_bit _ _ _ ∙ v.1,
      e ∙ ap (λ (z : List ℕ). with_bit z at 0) v.2 ∙ ap (λ (k : ℕ). with_bit (with_bits a.buf.now a.from (λ (i : ℕ). 0) (at - a.from)) k 0) q
          ∙ with_more a.buf.now a.from (λ (i : ℕ). 0) (at - a.from) ∙ ap (with_bits a.buf.now a.from (λ (i : ℕ). 0)) (sym r),
    )

pub returns : goal.returns
returns c =
    let a = c.args in
    let v = c.loop-at.invariant in
    let e : c.loop-at.at - a.from ≡ a.to - a.from = omega (arith, v.0, c.loop-at-test.false) in
    v.2 ∙ ap (with_bits a.buf.now a.from (λ (i : ℕ). 0)) e
