-- `split::leaves` meets its contract: it is `root_leaves`, by the number of the root at the place. Assumes nothing.
use mathlib.Core.Path.{◌∙◌}
use borrow.Author.Rules.{rules}
use Rattle.split.proofs.Outcomes.{by_root}
use Rattle.split.proofs.leaves.Statement.{statement}
use Rattle.split.proofs.leaves.Tie as tie

returns : tie.Need-returns
returns c = c.root_leaves.ensures ∙ by_root _ _ _ _ _ _ _ c.root_number.ensures

pub leaves_spec : {M : Type 1} → statement M
leaves_spec = tie.close (tie.spec (λ c κs. search rules) (λ c κs. search rules) (λ c. search rules) returns)
