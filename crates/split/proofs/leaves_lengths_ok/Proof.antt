-- `split::leaves_lengths_ok` meets its contract: the code is the list of tests. Assumes nothing.
use borrow.Author.Rules.{rules}
use Rattle.split.specs.LeavesCall.{lengths_ok}
use Rattle.split.proofs.leaves_lengths_ok.Statement.{statement}
use Rattle.split.proofs.leaves_lengths_ok.Tie as tie

returns : tie.Need-returns
unfolding lengths_ok
returns c = rw c.root_count.ensures.0

pub leaves_lengths_ok_spec : {M : Type 1} → statement M
leaves_lengths_ok_spec = tie.close (tie.spec (λ c κs. search rules) (λ c. search rules) returns)
