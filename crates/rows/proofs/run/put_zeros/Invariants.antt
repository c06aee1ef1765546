-- `rows::run::put_zeros`: the first j bytes are 0.
use Rattle.std.proofs.Common.{ℕ}
use Rattle.laws.proofs.Fill.{Upto}
use Rattle.rows.proofs.run.put_zeros.Given as goal

abbrev pub invariant-loop-j : goal.invariant-loop-j
invariant-loop-j l = Upto 0 (λ (i : ℕ). 0) l.fn.bytes l.bytes l.j
