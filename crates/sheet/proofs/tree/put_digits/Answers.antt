-- The digits before i are put. Assumes nothing.
use Rattle.std.proofs.Common.{List, ℕ, ◌≡◌, ◌∙◌, ◌%◌, sym, ap, get_or, length, arith}
use native.Mathlib.Nat.{zero-add}
use Rattle.bits.specs.Bits.{with_bit, with_bits}
use Rattle.bits.proofs.Laws.{with_none, with_more}
use Rattle.sheet.proofs.tree.put_digits.Goals as goal

abbrev low : List ℕ → ℕ → ℕ
low digits i = get_or digits i 0 % 2

pub loop-i-init : goal.loop-i-init
loop-i-init c = sym (with_none _ _ _)

pub loop-i-preserved : goal.loop-i-preserved
loop-i-preserved c =
    let v = c.loop-i.invariant in
    let a = c.args in
    let i = c.loop-i.i in
    c.put_bit.ensures ∙ ap (λ (z : List ℕ). with_bit z i (low a.digits.now i)) v
    ∙ ap (λ (k : ℕ). with_bit (with_bits a.bits.now 0 (low a.digits.now) i) k (low a.digits.now i)) (sym (zero-add i))
    ∙ with_more a.bits.now 0 (low a.digits.now) i

pub returns : goal.returns
returns c =
    let a = c.args in
    let e : c.loop-i.i ≡ length a.digits.now = omega arith in
    c.loop-i.invariant ∙ ap (with_bits a.bits.now 0 (low a.digits.now)) e
