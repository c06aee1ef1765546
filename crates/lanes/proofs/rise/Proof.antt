-- `lanes::rise` meets its contract. Assumes nothing.
use borrow.Author.Rules.{rules}
use Rattle.lanes.specs.Unsigned.{rise_of}
use Rattle.lanes.proofs.rise.Statement.{statement}
use Rattle.lanes.proofs.rise.Tie as tie

returns : tie.Need-returns
unfolding rise_of
returns c = search rules

pub rise_spec : {M : Type 1} → statement M
rise_spec =
    tie.close
    (tie.spec (λ c. search rules) (λ c. search rules) (λ c. search rules) (λ c. search rules) (λ c κs. search rules) (λ c κs. search rules) returns)
