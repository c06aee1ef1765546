-- `edge_place::edges_in` meets its contract: none of a row that is too long, and else the smallest of four. Assumes nothing.
use Prim.Native.Nat.{min}
use mathlib.Core.Path.{◌∙◌}
use borrow.Author.Rules.{rules}
use borrow.Author.Tests.{le-leb, lt-leb}
use Rattle.edge_place.specs.Plans.{edges_in}
use Rattle.edge_place.proofs.edges_in.Statement.{statement}
use Rattle.edge_place.proofs.edges_in.Tie as tie

returns : tie.Need-returns-then-columns-gt65535
unfolding edges_in
returns c = rw (lt-leb _ 65535 c.if-columns-gt65535.true)

returns-2 : tie.Need-returns
unfolding edges_in
returns-2 c =
    rw (le-leb _ 65535 c.if-columns-gt65535.false)
    (c.min-3.ensures ∙ (λ i. min (c.min.ensures i) (c.min-2.ensures i)))

pub edges_in_spec : {M : Type 1} → statement M
edges_in_spec = tie.close (tie.spec returns (λ c κs. search rules) (λ c κs. search rules) (λ c κs. search rules) returns-2)
