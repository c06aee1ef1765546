-- `row::row_at` meets its contract: 0 where a test of the two numbers fails, and else the row of two units. Assumes nothing.
use mathlib.Core.Path.{sym, ◌∙◌}
use native.Mathlib.Omega.{arith}
use borrow.Author.Rules.{rules}
use Rattle.row.proofs.Units.{unit_there, none_q, none_p, both_there}
use Rattle.row.proofs.row_at.Statement.{statement}
use Rattle.row.proofs.row_at.Tie as tie

returns : tie.Need-returns-then-not-in_maps
returns c = (none_q _ _ _ _ _ (sym c.in_maps.ensures ∙ c.if-not-in_maps.true), omega arith)

returns-2 : tie.Need-returns-then-not-in_maps-2
returns-2 c = (none_p _ _ _ _ _ (sym c.in_maps-2.ensures ∙ c.if-not-in_maps-2.true), omega arith)

row_between_requires : tie.Need-row_between-requires
row_between_requires c κs = (
  unit_there _ _ _ _ (sym c.in_maps.ensures ∙ c.if-not-in_maps.false),
  unit_there _ _ _ _ (sym c.in_maps-2.ensures ∙ c.if-not-in_maps-2.false),
)

returns-3 : tie.Need-returns
returns-3 c = (
  c.row_between.ensures.0
      ∙ both_there _ _ _ _ _ (sym c.in_maps.ensures ∙ c.if-not-in_maps.false) (sym c.in_maps-2.ensures ∙ c.if-not-in_maps-2.false),
  c.row_between.ensures.1,
)

pub row_at_spec : {M : Type 1} → statement M
row_at_spec = tie.close (tie.spec (λ c κs. search rules) returns (λ c κs. search rules) returns-2 row_between_requires returns-3)
