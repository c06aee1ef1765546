-- After j turns the first j bits are put. Assumes nothing.
use mathlib.Core.Path.{◌≡◌}
use Prim.Native.Nat.{ℕ, ◌%◌}
use lib.ListN.{length, get_or}
use Rattle.bits.specs.Bits.{with_bits}
use Rattle.pack.proofs.write.put_list.Given as goal

abbrev pub invariant-loop-j : goal.invariant-loop-j
invariant-loop-j l = (length l.buf ≡ length l.initial.buf) × (l.buf ≡ with_bits l.initial.buf l.at (λ (i : ℕ). get_or l.marks i 0 % 2) l.j)
