-- `edges::number_at` meets its contract: a number of 16 bits fits an index. Assumes nothing.
use native.Mathlib.Omega.{arith}
use borrow.Author.Rules.{rules}
use Rattle.edges.proofs.number_at.Statement.{statement}
use Rattle.edges.proofs.number_at.Tie as tie

cast_result : tie.Need-overflow_cast-result
cast_result c = omega (arith, c.shared_slice_known-1.given c.args.i)

pub number_at_spec : {M : Type 1} → statement M
number_at_spec = tie.close (tie.spec (λ c. search rules) (λ c. search rules) cast_result (λ c. search rules))
