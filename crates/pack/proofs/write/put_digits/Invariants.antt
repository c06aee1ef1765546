-- The digits of the roots before i are put. Assumes nothing.
use mathlib.Core.Path.{◌≡◌}
use Prim.Native.Nat.{◌/◌}
use lib.ListN.{length}
use Rattle.bits.specs.Bits.{with_bits}
use Rattle.marks_rules.specs.Pictures.{digits_of, picture_digits}
use Rattle.pack_rules.specs.Form.{digit_at}
use Rattle.pack.proofs.write.put_digits.Given as goal

abbrev pub invariant-loop-i : goal.invariant-loop-i
invariant-loop-i l =
    (length l.buf ≡ length l.initial.buf)
    × (l.used ≡ length (digits_of l.splits (l.w / 4) (l.h / 4) l.i))
    × (l.buf ≡ with_bits l.initial.buf l.at (digit_at (picture_digits l.splits (l.w / 4) (l.h / 4))) l.used)
    × (length l.list ≡ 85)
