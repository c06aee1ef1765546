-- `edge_place::units_in` meets its contract: the smallest of four. Assumes nothing.
use Prim.Native.Nat.{min}
use mathlib.Core.Path.{◌∙◌}
use borrow.Author.Rules.{rules}
use Rattle.edge_place.specs.Plans.{units_in}
use Rattle.edge_place.proofs.units_in.Statement.{statement}
use Rattle.edge_place.proofs.units_in.Tie as tie

returns : tie.Need-returns
unfolding units_in
returns c = c.min-3.ensures ∙ (λ i. min (c.min.ensures i) (c.min-2.ensures i))

pub units_in_spec : {M : Type 1} → statement M
units_in_spec = tie.close (tie.spec (λ c κs. search rules) (λ c κs. search rules) (λ c κs. search rules) returns)
