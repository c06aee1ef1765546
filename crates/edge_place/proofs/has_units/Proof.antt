-- `edge_place::has_units` meets its contract: the code is the two tests. Assumes nothing.
use mathlib.Core.Path.{refl}
use Rattle.edge_place.specs.Plans.{has_units}
use Rattle.edge_place.proofs.has_units.Statement.{statement}
use Rattle.edge_place.proofs.has_units.Tie as tie

returns : tie.Need-returns
unfolding has_units
returns c = refl

pub has_units_spec : {M : Type 1} → statement M
has_units_spec = tie.close (tie.spec returns)
