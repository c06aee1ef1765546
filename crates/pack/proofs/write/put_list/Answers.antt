-- After j turns the first j bits are put. Assumes nothing.
use mathlib.Core.Path.{◌≡◌, refl, sym, ap, ◌∙◌}
use Prim.Native.Nat.{ℕ, ◌%◌}
use native.Mathlib.Omega.{arith}
use lib.ListN.{length, get_or}
use Rattle.bits.proofs.Laws.{length_bit, with_none, with_more}
use Rattle.pack.proofs.write.put_list.Goals as goal

pub loop-j-init : goal.loop-j-init
loop-j-init c = (refl, sym (with_none _ _ _))

pub loop-j-preserved : goal.loop-j-preserved
loop-j-preserved c =
    let v = c.loop-j.invariant in
    let e = c.put_bit.ensures in
    let a = c.args in
    let j = c.loop-j.j in
    let b = get_or a.marks.now j 0 % 2 in
    let q : b % 2 ≡ b = omega arith in
    (ap length e ∙ length_bit _ _ _ ∙ v.0, e ∙ rw (c.mark_byte.ensures, v.1, q) (with_more a.buf.now a.at (λ (i : ℕ). get_or a.marks.now i 0 % 2) j))
