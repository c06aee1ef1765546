-- `edges::list_edges` meets its contract: nothing is written before all checks passed, and then each pass writes its list. Assumes nothing.
use mathlib.Core.Path.{sym, ◌∙◌}
use Rattle.std.proofs.lemmas.Result.{err_from_is_err_and}
use Rattle.edges.proofs.Outcomes.{list_passed, list_refused, list_done}
use Rattle.edges.proofs.list_edges.Goals as goal

pub returns-in_err-list_checked : goal.returns-in_err-list_checked
returns-in_err-list_checked c =
    let p = err_from_is_err_and c.from_residual.result c.from_residual.ensures.1 in
    rw (p.1, p.2) (list_refused _ _ _ c.list_checked.ensures c.in_err-list_checked.was)

pub pass_edges-vertical_end-requires : goal.pass_edges-vertical_end-requires
pass_edges-vertical_end-requires c =
    let p = list_passed _ _ _ _ _ _ (sym c.list_checked.ensures ∙ c.in_ok-list_checked.was) in
    (p.accepted, p.vertical)

pub pass_edges-horizontal_end-requires : goal.pass_edges-horizontal_end-requires
pass_edges-horizontal_end-requires c =
    let p = list_passed _ _ _ _ _ _ (sym c.list_checked.ensures ∙ c.in_ok-list_checked.was) in
    (p.accepted, p.horizontal)

pub returns : goal.returns
returns c =
    list_done _ _ _ _ _ _ c.list_checked.ensures
    c.in_ok-list_checked.was
    c.pass_edges-vertical_end.ensures c.pass_edges-horizontal_end.ensures
