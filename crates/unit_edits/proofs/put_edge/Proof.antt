-- `unit_edits::put_edge` meets its contract: one store. Assumes nothing.
use borrow.Author.Rules.{rules}
use Rattle.rows_rules.specs.Inside.{edge_put}
use Rattle.unit_edits.proofs.put_edge.Statement.{statement}
use Rattle.unit_edits.proofs.put_edge.Tie as tie

returns : tie.Need-returns
unfolding edge_put
returns c = rw (c.with_row.ensures, c.edge_row-row.ensures.0)

pub put_edge_spec : {M : Type 1} → statement M
put_edge_spec = tie.close (tie.spec (λ c κs. search rules) (λ c. search rules) (λ c κs. search rules) (λ c. search rules) (λ c. search rules) returns)
