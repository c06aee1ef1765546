-- `chroma_qp::fill_below`: the first k entries up to the pivot have been put.
use Rattle.std.proofs.Common.{ℕ, pos}
use Rattle.laws.proofs.Planes.{Rowed}
use Rattle.chroma_qp_check.specs.Pivots.{entry_qp}
use Rattle.chroma_qp.specs.Held.{held_below}
use Rattle.chroma_qp.proofs.fill_below.Given as goal

abbrev pub invariant-loop-k : goal.invariant-loop-k
invariant-loop-k l = Rowed (pos 0) 0 (λ (i : ℕ). entry_qp (held_below l.qp_in l.qp_out i)) l.fn.t l.t l.k
