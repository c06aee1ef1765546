-- `cases::signed`: the size is below what an i32 holds, up and down.
use Rattle.std.proofs.Common.{ℕ, ◌+◌, ◌%◌, ◌≤◌, ◌≡◌, ◌∙◌, arith}
use native.Mathlib.Nat.{mod-lt}
use lib.IntN.{pos, neg_ℤ, ◌-ℤ◌, +ℤ_idl}
use mir.Syntax.{w32}
use mir.Val.{SFits, to_z, of_z}
use Rattle.laws.proofs.Widths.{sfits, back}
use Rattle.cases.specs.Numbers.{signed_of}
use Rattle.cases.proofs.Signs.{mag_neg}
use Rattle.cases.proofs.signed.Goals as goal

above : (k : ℕ) → k ≤ 32768 → SFits w32 (pos k)
above k h = sfits w32 32768 h tt

read : (k : ℕ) → k ≤ 32768 → to_z w32 k ≡ pos k
read k h = back w32 (pos k) (above k h)

below : (k : ℕ) → k ≤ 32768 → SFits w32 (pos 0 -ℤ to_z w32 k)
below k h = rw (read k h, +ℤ_idl (neg_ℤ (pos k))) (sfits w32 32768 (omega (arith, mag_neg k)) tt)

returned : (k : ℕ) → k ≤ 32768 → to_z w32 (of_z w32 (pos 0 -ℤ to_z w32 k)) ≡ neg_ℤ (pos k)
returned k h = back w32 _ (below k h) ∙ rw (read k h) (+ℤ_idl (neg_ℤ (pos k)))

-- what is left of a size, past as many as are asked for
part : (size m : ℕ) → 1 ≤ m → m ≤ 32769 → size % m ≤ 32768
part size m h p = omega (arith, mod-lt size {m = m} (omega arith))

pub returns-then-n : goal.returns-then-n
unfolding signed_of
returns-then-n c =
    let a = c.args in
    rw c.if-n.true (returned (a.n.size % (a.m + 1)) (part a.n.size (a.m + 1) (omega arith) (omega arith)))

pub returns : goal.returns
unfolding signed_of
returns c =
    let a = c.args in
    rw c.if-n.false (read (a.n.size % a.m) (part a.n.size a.m (omega arith) (omega arith)))
