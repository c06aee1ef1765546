-- `ward_check::across_run` meets its contract: by the run. Assumes nothing.
use borrow.Author.Rules.{rules}
use Rattle.ward_check.proofs.across_run.Statement.{statement}
use Rattle.ward_check.proofs.across_run.Tie as tie

returns-2 : tie.Need-returns-in-Preview
returns-2 c = rw c.in-Preview.is

pub across_run_spec : {M : Type 1} → statement M
across_run_spec = tie.close (tie.spec (λ c. search rules) (λ c. search rules) (λ c. search rules) returns-2)
