-- `avail::get_avail_inter`: the checks, and past them the eight answers.
use Rattle.std.proofs.Common.{sym, ap, ◌∙◌}
use Rattle.std.proofs.lemmas.Result.{err_from_is_err_and}
use Rattle.def.proofs.Answers.{on_refusal, on_done}
use Rattle.avail.specs.Calls.{done, inter_outcome}
use Rattle.avail.proofs.get_avail_inter.Goals as goal

pub returns-in_err-checked : goal.returns-in_err-checked
unfolding inter_outcome
returns-in_err-checked c =
    let p = err_from_is_err_and c.from_residual.result c.from_residual.ensures.1 in
    rw (p.1, p.2) (on_refusal _ _ _ _ _ c.checked.ensures c.in_err-checked.was)

pub inter_neighbours-requires : goal.inter_neighbours-requires
inter_neighbours-requires c = sym c.checked.ensures ∙ c.in_ok-checked.was

pub returns : goal.returns
unfolding inter_outcome
returns c = on_done _ _ _ _ _ c.checked.ensures c.in_ok-checked.was (ap done c.inter_neighbours.ensures)
