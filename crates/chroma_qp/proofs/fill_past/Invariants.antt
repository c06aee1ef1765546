-- `chroma_qp::fill_past`: the first m entries past the last pivot have been put.
use Rattle.std.proofs.Common.{ℕ, ◌+◌, pos}
use Rattle.laws.proofs.Planes.{Rowed}
use Rattle.chroma_qp_check.specs.Pivots.{entry_qp}
use Rattle.chroma_qp.specs.Held.{held_past}
use Rattle.chroma_qp.proofs.fill_past.Given as goal

abbrev pub invariant-loop-m : goal.invariant-loop-m
invariant-loop-m l = Rowed (pos 0) (l.qp_in + 1) (λ (i : ℕ). entry_qp (held_past l.v (i + 1))) l.fn.t l.t l.m
