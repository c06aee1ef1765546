-- `window::copy_row_if` meets its contract: an arm for each flag. Assumes nothing.
use borrow.Author.Rules.{rules}
use Rattle.window.proofs.copy_row_if.Statement.{statement}
use Rattle.window.proofs.copy_row_if.Tie as tie

returns : tie.Need-returns-then-written
returns c = rw c.if-written.true c.copy_row.ensures

pub copy_row_if_spec : {M : Type 1} → statement M
copy_row_if_spec = tie.close (tie.spec (λ c κs. search rules) (λ c. search rules) returns (λ c. search rules))
