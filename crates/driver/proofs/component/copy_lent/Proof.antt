-- `driver::component::copy_lent` meets its contract: the block, counted in the component. Assumes nothing.
use mathlib.Core.Path.{◌∙◌}
use borrow.Author.Rules.{rules}
use Rattle.driver.proofs.Copies.{copied}
use Rattle.driver.proofs.component.copy_lent.Statement.{statement}
use Rattle.driver.proofs.component.copy_lent.Tie as tie

copy_block_requires : tie.Need-copy_block-requires
copy_block_requires c κs =
    rw (c.in_component-wide.ensures, c.in_component-column.ensures, c.in_component-row.ensures, c.in_component-n.ensures)
    (copied c.args.block.component _ _ _ _ _ _ _ c.requires.0.size c.requires.0.block c.requires.1.long c.requires.2)

returns : tie.Need-returns
returns c =
    c.copy_block.ensures
    ∙ rw (
      c.in_component-wide.ensures,
      c.in_component-column.ensures,
      c.in_component-row.ensures,
      c.in_component-n.ensures,
    )

pub copy_lent_spec : {M : Type 1} → statement M
copy_lent_spec =
    tie.close
    (tie.spec (λ c κs. search rules) (λ c κs. search rules) (λ c κs. search rules) (λ c κs. search rules) copy_block_requires (λ c. search rules) returns)
