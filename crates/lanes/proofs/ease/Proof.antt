-- `lanes::ease` meets its contract. Assumes nothing.
use borrow.Author.Rules.{rules}
use Rattle.lanes.specs.Unsigned.{ease_of}
use Rattle.lanes.proofs.ease.Statement.{statement}
use Rattle.lanes.proofs.ease.Tie as tie

returns : tie.Need-returns
unfolding ease_of
returns c = search rules

pub ease_spec : {M : Type 1} → statement M
ease_spec = tie.close (tie.spec (λ c κs. search rules) (λ c κs. search rules) returns)
