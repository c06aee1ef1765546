-- `split::put_unit` meets its contract: the walk of a unit reads no byte, so that the bytes may be any. Assumes nothing.
use mathlib.Core.Path.{refl}
use borrow.Author.Rules.{rules}
use Rattle.split.proofs.Blocks.{skip_x, skip_y, at_unit}
use Rattle.split.proofs.Stores.{stored_nothing, stored_as}
use Rattle.split.proofs.put_unit.Statement.{statement}
use Rattle.split.proofs.put_unit.Tie as tie

returns : tie.Need-returns-then-w-at
returns c s = stored_as (skip_x s c.requires.0 c.if-w-at.true) (stored_nothing _ _)

returns-2 : tie.Need-returns-then-h-at
returns-2 c s = stored_as (skip_y s c.requires.0 c.if-w-at.false c.if-h-at.true) (stored_nothing _ _)

returns-3 : tie.Need-returns
returns-3 c s =
    stored_as (at_unit s c.requires.0 c.if-w-at.false c.if-h-at.false refl) c.put_leaf.ensures

pub put_unit_spec : {M : Type 1} → statement M
put_unit_spec = tie.close (tie.spec returns returns-2 (λ c κs. search rules) (λ c. search rules) returns-3)
