-- `rank::visiting_rank` meets its contract. That the table's 256 entries are the interleaved bits is one test, `table_test`, which the checker computes:
-- there the code's table stands for `ranks`, the table by its rule. Assumes nothing.
use native.Mathlib.Omega.{arith}
use borrow.Author.Rules.{rules}
use borrow.Author.Tests.{le-ltb}
use Rattle.laws.specs.Index.{tabulate_from}
use Rattle.rank.specs.Ranks.{spread}
use Rattle.rank.proofs.Ranks.{ranks, rank_at, rank_refused, rank_done}
use Rattle.rank.proofs.visiting_rank.Statement.{statement}
use Rattle.rank.proofs.visiting_rank.Tie as tie

table_test : tie.Need-returns
unfolding ranks tabulate_from spread
table_test c =
    let a = c.args in
    rank_done _ _ (omega arith) (omega arith) (rank_at a.x.0 a.y.0 (omega arith) (omega arith))

pub visiting_rank_spec : {M : Type 1} → statement M
visiting_rank_spec = tie.close (tie.spec (λ c. rank_refused _ 0 (le-ltb _ _ (omega arith))) (λ c. rank_refused _ 1 (le-ltb _ _ (omega arith))) (λ c. search rules) (λ c. search rules) (λ c. search rules) table_test)
