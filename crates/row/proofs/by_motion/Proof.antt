-- `row::by_motion` meets its contract: the rule of the two units' motion. Assumes nothing.
use mathlib.Core.Path.{◌∙◌}
use borrow.Author.Rules.{rules}
use Rattle.line.specs.Row.{motion_row}
use Rattle.row.proofs.by_motion.Statement.{statement}
use Rattle.row.proofs.by_motion.Tie as tie

returns : tie.Need-returns
returns c = (c.motion_row.ensures.0 ∙ (λ i. motion_row (c.motion_at.ensures i) (c.motion_at-2.ensures i)), c.motion_row.ensures.1)

pub by_motion_spec : {M : Type 1} → statement M
by_motion_spec = tie.close (tie.spec (λ c κs. search rules) (λ c κs. search rules) (λ c κs. search rules) returns)
