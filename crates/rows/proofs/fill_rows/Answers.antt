-- `rows::fill_rows` meets its contract: the checks, and then every byte. Assumes nothing.
use mathlib.Core.Path.{sym, ◌∙◌}
use Rattle.std.proofs.lemmas.Result.{err_from_is_err_and}
use Rattle.rows_rules.proofs.Calls.{maps_accepted, fill_refused, fill_done}
use Rattle.rows.proofs.fill_rows.Goals as goal

pub returns-in_err-checked_maps : goal.returns-in_err-checked_maps
returns-in_err-checked_maps c =
    let p = err_from_is_err_and c.from_residual.result c.from_residual.ensures.1 in
    rw (p.1, p.2) (fill_refused _ _ c.checked_maps.ensures _ c.in_err-checked_maps.was)

pub fill-requires : goal.fill-requires
fill-requires c =
    let s = c.args in
    let a = maps_accepted s.w s.h s.words.now s.motion.now s.refs.now s.rows.now (sym c.checked_maps.ensures ∙ c.in_ok-checked_maps.was) in
    (a.lent, a.rows_long)

pub returns : goal.returns
returns c = fill_done _ _ c.checked_maps.ensures _ c.in_ok-checked_maps.was c.fill.ensures
