-- `edge_place::row_of` meets its contract: the row that the map has, or the one that is worked out. Assumes nothing.
use borrow.Author.Rules.{rules}
use borrow.Author.Tests.{lt-ltb, le-ltb}
use Rattle.edge_place.specs.Places.{lent_row}
use Rattle.edge_place.proofs.row_of.Statement.{statement}
use Rattle.edge_place.proofs.row_of.Tie as tie

returns : tie.Need-returns-then-q-rows
unfolding lent_row
returns c = (rw (lt-ltb _ _ c.if-q-rows.true) c.row_in.ensures.0, c.row_in.ensures.1)

returns-2 : tie.Need-returns
unfolding lent_row
returns-2 c = (rw (le-ltb _ _ c.if-q-rows.false) c.row_at.ensures.0, c.row_at.ensures.1)

pub row_of_spec : {M : Type 1} → statement M
row_of_spec = tie.close (tie.spec (λ c. search rules) (λ c κs. search rules) returns (λ c κs. search rules) returns-2)
