-- `ward_rows::last_row` meets its contract: by the run. Assumes nothing.
use Rattle.std.proofs.Common.{rules}
use Rattle.ward_rows.proofs.last_row.Statement.{statement}
use Rattle.ward_rows.proofs.last_row.Tie as tie

returns-2 : tie.Need-returns-in-Preview
returns-2 c = rw c.in-Preview.is

pub last_row_spec : {M : Type 1} → statement M
last_row_spec = tie.close (tie.spec (λ c. search rules) (λ c. search rules) (λ c. search rules) (λ c. search rules) (λ c. search rules) returns-2)
