-- `unit_edits::set_motion` meets its contract: the checks, the unit's motion and references, and the rows of its edges by them. Assumes nothing.
use mathlib.Core.Path.{sym, ◌∙◌}
use native.Mathlib.Omega.{arith}
use Rattle.std.proofs.lemmas.Result.{err_from_is_err_and}
use Rattle.rows_rules.proofs.Calls.{unit_accepted, lent_moved, motion_refused, motion_done}
use Rattle.rows_rules.proofs.Sides.{unit_in_map}
use Rattle.unit_edits.proofs.set_motion.Goals as goal

pub returns-in_err-checked_unit : goal.returns-in_err-checked_unit
returns-in_err-checked_unit c =
    let p = err_from_is_err_and c.from_residual.result c.from_residual.ensures.1 in
    rw (p.1, p.2) (motion_refused _ _ c.checked_unit.ensures _ c.in_err-checked_unit.was)

pub overflow_mul-k : goal.overflow_mul-k
overflow_mul-k c =
    let g = unit_accepted _ _ c.args.words.now c.args.motion.now c.args.refs.now c.args.rows.now _ _ (sym c.checked_unit.ensures ∙ c.in_ok-checked_unit.was) in
    omega (arith, unit_in_map g.unit, g.maps.lent.few)

pub overflow_add-k : goal.overflow_add-k
overflow_add-k c =
    let g = unit_accepted _ _ c.args.words.now c.args.motion.now c.args.refs.now c.args.rows.now _ _ (sym c.checked_unit.ensures ∙ c.in_ok-checked_unit.was) in
    omega (arith, unit_in_map g.unit, g.maps.lent.few)

pub put_motion-requires : goal.put_motion-requires
put_motion-requires c =
    let g = unit_accepted _ _ c.args.words.now c.args.motion.now c.args.refs.now c.args.rows.now _ _ (sym c.checked_unit.ensures ∙ c.in_ok-checked_unit.was) in
    omega (arith, unit_in_map g.unit, g.maps.lent.long_motion)

pub put_refs-requires : goal.put_refs-requires
put_refs-requires c =
    let g = unit_accepted _ _ c.args.words.now c.args.motion.now c.args.refs.now c.args.rows.now _ _ (sym c.checked_unit.ensures ∙ c.in_ok-checked_unit.was) in
    omega (arith, unit_in_map g.unit, g.maps.lent.long_refs)

pub put_edges-requires : goal.put_edges-requires
put_edges-requires c =
    let g = unit_accepted _ _ c.args.words.now c.args.motion.now c.args.refs.now c.args.rows.now _ _ (sym c.checked_unit.ensures ∙ c.in_ok-checked_unit.was) in
    (lent_moved g.maps.lent _ _ _ _ c.put_motion.ensures c.put_refs.ensures, g.unit, g.maps.rows_long)

pub returns : goal.returns
returns c =
    motion_done _ _ c.checked_unit.ensures _ _ _ c.in_ok-checked_unit.was
    c.put_motion.ensures c.put_refs.ensures c.put_edges.ensures
