-- `unit_edits::set_flag` meets its contract: the checks, the unit's word, and the rows of its edges by it. Assumes nothing.
use Prim.Native.Nat.{◌+◌, ◌*◌, ◌/◌}
use mathlib.Core.Path.{sym, ◌∙◌}
use native.Mathlib.Omega.{arith}
use lib.ListN.{length-set}
use Rattle.std.proofs.lemmas.Result.{err_from_is_err_and}
use Rattle.rows_rules.proofs.Calls.{unit_accepted, lent_flagged}
use Rattle.rows_rules.proofs.Sides.{unit_in_map}
use Rattle.unit_edits.proofs.FlagCalls.{flag_refused, flag_done}
use Rattle.unit_edits.proofs.set_flag.Goals as goal

pub returns-in_err-checked_unit : goal.returns-in_err-checked_unit
returns-in_err-checked_unit c =
    let p = err_from_is_err_and c.from_residual.result c.from_residual.ensures.1 in
    rw (p.1, p.2) (flag_refused _ _ c.checked_unit.ensures _ c.in_err-checked_unit.was)

pub overflow_mul-k : goal.overflow_mul-k
overflow_mul-k c =
    let g = unit_accepted _ _ c.args.words.now c.args.motion.now c.args.refs.now c.args.rows.now _ _ (sym c.checked_unit.ensures ∙ c.in_ok-checked_unit.was) in
    omega (arith, unit_in_map g.unit, g.maps.lent.few)

pub overflow_add-k : goal.overflow_add-k
overflow_add-k c =
    let g = unit_accepted _ _ c.args.words.now c.args.motion.now c.args.refs.now c.args.rows.now _ _ (sym c.checked_unit.ensures ∙ c.in_ok-checked_unit.was) in
    omega (arith, unit_in_map g.unit, g.maps.lent.few)

pub offset_bounds-words-k : goal.offset_bounds-words-k
offset_bounds-words-k c =
    let g = unit_accepted _ _ c.args.words.now c.args.motion.now c.args.refs.now c.args.rows.now _ _ (sym c.checked_unit.ensures ∙ c.in_ok-checked_unit.was) in
    omega (arith, unit_in_map g.unit, g.maps.lent.few)

pub bounds-words-k : goal.bounds-words-k
bounds-words-k c =
    let g = unit_accepted _ _ c.args.words.now c.args.motion.now c.args.refs.now c.args.rows.now _ _ (sym c.checked_unit.ensures ∙ c.in_ok-checked_unit.was) in
    unit_in_map g.unit

pub offset_bounds-words-k-2 : goal.offset_bounds-words-k-2
offset_bounds-words-k-2 c =
    let g = unit_accepted _ _ c.args.words.now c.args.motion.now c.args.refs.now c.args.rows.now _ _ (sym c.checked_unit.ensures ∙ c.in_ok-checked_unit.was) in
    omega (arith, unit_in_map g.unit, g.maps.lent.few)

pub bounds-words-k-2 : goal.bounds-words-k-2
bounds-words-k-2 c =
    let g = unit_accepted _ _ c.args.words.now c.args.motion.now c.args.refs.now c.args.rows.now _ _ (sym c.checked_unit.ensures ∙ c.in_ok-checked_unit.was) in
    unit_in_map g.unit

pub put_edges-requires : goal.put_edges-requires
put_edges-requires c =
    let g = unit_accepted _ _ c.args.words.now c.args.motion.now c.args.refs.now c.args.rows.now _ _ (sym c.checked_unit.ensures ∙ c.in_ok-checked_unit.was) in
    let u = g.unit in
    let a = c.args in
    let l = length-set a.words.now (a.y.0 * (a.w / 4) + a.x.0) c.with_flag.result in
    (lent_flagged g.maps.lent 0 _ l, record { column = u.column; row = u.row; high = u.high; whole = l ∙ u.whole }, g.maps.rows_long ∙ sym l)

pub returns : goal.returns
returns c =
    flag_done _ _ c.checked_unit.ensures _ _ c.in_ok-checked_unit.was (rw c.with_flag.ensures) c.put_edges.ensures
