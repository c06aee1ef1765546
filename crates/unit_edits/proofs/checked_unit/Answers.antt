-- `unit_edits::checked_unit` meets its contract: the checks of the maps, and then the unit. Assumes nothing.
use mathlib.Core.Bool.{not}
use mathlib.Core.Path.{refl, ap}
use Rattle.std.proofs.lemmas.Result.{err_from_is_err_and}
use Rattle.laws.proofs.Calls.{stops, goes_on}
use Rattle.rows_rules.proofs.Calls.{unit_refused, unit_goes}
use Rattle.unit_edits.proofs.checked_unit.Goals as goal

pub returns-in_err-checked_maps : goal.returns-in_err-checked_maps
returns-in_err-checked_maps c =
    let p = err_from_is_err_and c.from_residual.result c.from_residual.ensures.1 in
    rw (p.1, p.2) (unit_refused _ _ _ _ _ _ _ _ _ _ c.checked_maps.ensures c.in_err-checked_maps.was)

pub returns-then-not-unit_ok : goal.returns-then-not-unit_ok
returns-then-not-unit_ok c = unit_goes _ _ _ _ _ _ _ _ _ _ c.checked_maps.ensures c.in_ok-checked_maps.was
    (stops _ _ _ _ c.unit_ok.ensures (ap not c.if-not-unit_ok.true))

pub returns : goal.returns
returns c = unit_goes _ _ _ _ _ _ _ _ _ _ c.checked_maps.ensures c.in_ok-checked_maps.was
    (goes_on _ _ _ _ _ c.unit_ok.ensures (ap not c.if-not-unit_ok.false) refl)
