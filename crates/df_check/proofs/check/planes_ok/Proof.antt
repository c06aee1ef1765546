-- `df_check::check::planes_ok` meets its contract: the code is the list of tests. Assumes nothing.
use borrow.Author.Rules.{rules}
use Rattle.df_check.specs.Checks.{planes_ok}
use Rattle.df_check.proofs.check.planes_ok.Statement.{statement}
use Rattle.df_check.proofs.check.planes_ok.Tie as tie

returns : tie.Need-returns
unfolding planes_ok
returns c = rw (c.samples_ok.ensures, c.samples_ok-2.ensures, c.samples_ok-3.ensures)

pub planes_ok_spec : {M : Type 1} → statement M
planes_ok_spec = tie.close (tie.spec (λ c κs. search rules) (λ c κs. search rules) (λ c κs. search rules) returns)
