-- `line::facing` meets its contract: P as it is, or crossed. Assumes nothing.
use mathlib.Core.Path.{◌∙◌}
use borrow.Author.Rules.{rules}
use Rattle.line.proofs.facing.Statement.{statement}
use Rattle.line.proofs.facing.Tie as tie

returns-2 : tie.Need-returns-else-straight
returns-2 c = c.crossed.ensures ∙ rw c.if-straight.false

pub facing_spec : {M : Type 1} → statement M
facing_spec = tie.close (tie.spec (λ c κs. search rules) (λ c. search rules) returns-2)
