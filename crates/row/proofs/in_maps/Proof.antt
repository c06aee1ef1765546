-- `row::in_maps` meets its contract: the code is the list of tests. Assumes nothing.
use mathlib.Core.Path.{refl}
use Rattle.row.specs.Between.{in_maps}
use Rattle.row.proofs.in_maps.Statement.{statement}
use Rattle.row.proofs.in_maps.Tie as tie

returns : tie.Need-returns
unfolding in_maps
returns c = refl

pub in_maps_spec : {M : Type 1} → statement M
in_maps_spec = tie.close (tie.spec returns)
