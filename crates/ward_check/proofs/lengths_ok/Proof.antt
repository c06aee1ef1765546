-- `ward_check::lengths_ok` meets its contract: each plane's length. Assumes nothing.
use borrow.Author.Rules.{rules}
use Rattle.ward_check.specs.Checks.{lengths_ok}
use Rattle.ward_check.proofs.lengths_ok.Statement.{statement}
use Rattle.ward_check.proofs.lengths_ok.Tie as tie

returns : tie.Need-returns
unfolding lengths_ok
returns c = rw (c.plane_length-luma.ensures, c.plane_length-first.ensures, c.plane_length-second.ensures)

pub lengths_ok_spec : {M : Type 1} → statement M
lengths_ok_spec = tie.close (tie.spec (λ c κs. search rules) (λ c κs. search rules) (λ c κs. search rules) returns)
