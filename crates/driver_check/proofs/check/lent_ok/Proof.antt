-- `driver_check::check::lent_ok` meets its contract: the three planes. Assumes nothing.
use borrow.Author.Rules.{rules}
use Rattle.driver_rules.specs.Call.{lent_ok}
use Rattle.driver_check.proofs.check.lent_ok.Statement.{statement}
use Rattle.driver_check.proofs.check.lent_ok.Tie as tie

returns : tie.Need-returns
unfolding lent_ok
returns c = rw (c.samples_ok.ensures, c.samples_ok-2.ensures, c.samples_ok-3.ensures)

pub lent_ok_spec : {M : Type 1} → statement M
lent_ok_spec = tie.close (tie.spec (λ c κs. search rules) (λ c κs. search rules) (λ c κs. search rules) returns)
