-- `chroma_qp::fill_between`: the first m entries past the pivot have been put.
use Rattle.std.proofs.Common.{ℕ, ◌+◌, pos}
use Rattle.laws.proofs.Planes.{Rowed}
use Rattle.chroma_qp_check.specs.Pivots.{entry_qp}
use Rattle.chroma_qp.specs.Held.{held_between}
use Rattle.chroma_qp.proofs.fill_between.Given as goal

abbrev pub invariant-loop-m : goal.invariant-loop-m
invariant-loop-m l = Rowed (pos 0) (l.qp_in + 1) (λ (i : ℕ). entry_qp (held_between l.v l.from l.to l.n (i + 1))) l.fn.t l.t l.m
