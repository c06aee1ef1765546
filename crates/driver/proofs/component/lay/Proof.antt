-- `driver::component::lay` meets its contract: the block, counted in the component. Assumes nothing.
use mathlib.Core.Path.{◌∙◌}
use borrow.Author.Rules.{rules}
use Rattle.driver.proofs.Copies.{copied}
use Rattle.driver.proofs.component.lay.Statement.{statement}
use Rattle.driver.proofs.component.lay.Tie as tie

lay_rows_requires : tie.Need-lay_rows-requires
lay_rows_requires c κs =
    rw (c.in_component-wide.ensures, c.in_component-column.ensures, c.in_component-row.ensures, c.in_component-n.ensures)
    (copied c.args.block.component _ _ _ _ _ _ _ c.requires.0.size c.requires.0.block c.requires.1 c.requires.2)

returns : tie.Need-returns
returns c =
    c.lay_rows.ensures
    ∙ rw (
      c.in_component-wide.ensures,
      c.in_component-column.ensures,
      c.in_component-row.ensures,
      c.in_component-n.ensures,
    )

pub lay_spec : {M : Type 1} → statement M
lay_spec =
    tie.close
    (tie.spec (λ c κs. search rules) (λ c κs. search rules) (λ c κs. search rules) (λ c κs. search rules) lay_rows_requires (λ c. search rules) returns)
