-- `window::put_if` meets its contract: an arm for each flag. Assumes nothing.
use borrow.Author.Rules.{rules}
use Rattle.window.proofs.put_if.Statement.{statement}
use Rattle.window.proofs.put_if.Tie as tie

returns : tie.Need-returns-then-written
returns c = rw c.if-written.true

pub put_if_spec : {M : Type 1} → statement M
put_if_spec = tie.close (tie.spec (λ c. search rules) (λ c. search rules) (λ c. search rules) returns (λ c. search rules))
