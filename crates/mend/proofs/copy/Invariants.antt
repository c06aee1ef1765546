-- `mend::copy`: the bytes before i are copied.
use Rattle.std.proofs.Common.{◌≡◌, take}
use Rattle.mend.proofs.copy.Given as goal

abbrev pub invariant-loop-i : goal.invariant-loop-i
invariant-loop-i l = take l.i l.out ≡ take l.i l.bytes
