-- `decoder_c::neighbours::copy`: the bytes before k are copied.
use Rattle.std.proofs.Common.{◌≡◌, take}
use Rattle.decoder_c.proofs.neighbours.copy.Given as goal

abbrev pub invariant-loop-k : goal.invariant-loop-k
invariant-loop-k l = take l.k l.out ≡ take l.k l.part
