-- `edge_place::place_at` meets its contract: 52 times the row of Q and P, and Q's QP. Assumes nothing.
use Prim.Native.Nat.{◌+◌, ◌*◌, ◌%◌}
use borrow.Author.Rules.{rules}
use Rattle.edge_place.specs.Places.{place_in}
use Rattle.edge_place.proofs.place_at.Statement.{statement}
use Rattle.edge_place.proofs.place_at.Tie as tie

returns : tie.Need-returns
unfolding place_in
returns c = λ i. (52 * c.row_of-row.ensures.0 i + c.get_qp.ensures.0 i) % 256

pub place_at_spec : {M : Type 1} → statement M
place_at_spec =
    tie.close
    (tie.spec (λ c κs. search rules) (λ c. search rules) (λ c. search rules) (λ c. search rules) (λ c κs. search rules) (λ c. search rules) (λ c. search rules) returns)
