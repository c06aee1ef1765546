-- The digits before i are put. Assumes nothing.
use Rattle.std.proofs.Common.{◌≡◌, ℕ, ◌%◌, get_or}
use Rattle.bits.specs.Bits.{with_bits}
use Rattle.sheet.proofs.tree.put_digits.Given as goal

abbrev pub invariant-loop-i : goal.invariant-loop-i
invariant-loop-i l = l.bits ≡ with_bits l.fn.bits 0 (λ (k : ℕ). get_or l.digits k 0 % 2) l.i
