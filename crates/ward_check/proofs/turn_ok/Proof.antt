-- `ward_check::turn_ok` meets its contract: the list of tests, with the planes and the rows that there are. Assumes nothing.
use borrow.Author.Rules.{rules}
use Rattle.ward_check.specs.Checks.{turn_ok}
use Rattle.ward_check.proofs.turn_ok.Statement.{statement}
use Rattle.ward_check.proofs.turn_ok.Tie as tie

returns : tie.Need-returns
unfolding turn_ok
returns c = rw (c.across_run-rows.ensures, c.in_plane.ensures, c.planes_of-planes.ensures)

pub turn_ok_spec : {M : Type 1} → statement M
turn_ok_spec = tie.close (tie.spec (λ c κs. search rules) (λ c. search rules) (λ c κs. search rules) (λ c κs. search rules) returns)
