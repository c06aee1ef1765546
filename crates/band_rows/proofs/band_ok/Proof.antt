-- `band_rows::band_ok` meets its contract: the code is the two tests. Assumes nothing.
use borrow.Author.Rules.{rules}
use Rattle.band_rows.specs.Rows.{band_ok}
use Rattle.band_rows.proofs.band_ok.Statement.{statement}
use Rattle.band_rows.proofs.band_ok.Tie as tie

returns : tie.Need-returns
unfolding band_ok
returns c = rw c.roots_along.ensures

pub band_ok_spec : {M : Type 1} → statement M
band_ok_spec = tie.close (tie.spec (λ c κs. search rules) returns)
