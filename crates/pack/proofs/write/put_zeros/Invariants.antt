-- The bits before `at` are put. Assumes nothing.
use mathlib.Core.Path.{◌≡◌}
use Prim.Native.Nat.{ℕ, ◌-◌, ◌≤◌}
use lib.ListN.{length}
use Rattle.bits.specs.Bits.{with_bits}
use Rattle.pack.proofs.write.put_zeros.Given as goal

abbrev pub invariant-loop-at : goal.invariant-loop-at
invariant-loop-at l = (l.at - l.from ≤ l.to - l.from) × (length l.buf ≡ length l.initial.buf) × (l.buf ≡ with_bits l.initial.buf l.from (λ (i : ℕ). 0) (l.at - l.from))
