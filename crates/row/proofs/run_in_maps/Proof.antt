-- `row::run_in_maps` meets its contract: the code is the list of tests. Assumes nothing.
use borrow.Author.Rules.{rules}
use Rattle.row.specs.Runs.{run_in_maps}
use Rattle.row.proofs.run_in_maps.Statement.{statement}
use Rattle.row.proofs.run_in_maps.Tie as tie

returns : tie.Need-returns
unfolding run_in_maps
returns c = rw (c.fits.ensures, c.fits-2.ensures, c.fits-3.ensures)

pub run_in_maps_spec : {M : Type 1} → statement M
run_in_maps_spec = tie.close (tie.spec (λ c κs. search rules) (λ c κs. search rules) (λ c κs. search rules) returns)
