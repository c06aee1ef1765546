-- `driver::reconstruct`: the checks, and past them the words cleared and all leaves drawn.
use Rattle.std.proofs.Common.{sym, ◌∙◌}
use Rattle.std.proofs.lemmas.Result.{err_from_is_err_and}
use Rattle.def.proofs.Answers.{on_refusal, on_done}
use Rattle.driver_rules.specs.Call.{outcome}
use Rattle.driver_rules.proofs.Checks.{all_passed}
use Rattle.driver.proofs.Leaves.{done_ended}
use Rattle.driver.proofs.reconstruct.Goals as goal

pub returns-in_err-checked_leaves : goal.returns-in_err-checked_leaves
unfolding outcome
returns-in_err-checked_leaves c =
    let p = err_from_is_err_and c.from_residual.result c.from_residual.ensures.1 in
    rw (p.1, p.2) (on_refusal _ _ _ _ _ c.checked_leaves.ensures c.in_err-checked_leaves.was)

pub draw_picture-requires : goal.draw_picture-requires
draw_picture-requires c =
    let p = all_passed _ (sym c.checked_leaves.ensures ∙ c.in_ok-checked_leaves.was) in
    record { given_asked = p.given; state_asked = rw c.clear_words.ensures p.state; accepted = (p.accepted, p.reaches) }

pub returns : goal.returns
unfolding outcome
returns c =
    on_done _ _ _ _ _ c.checked_leaves.ensures c.in_ok-checked_leaves.was
    (done_ended _ c.clear_words.ensures c.draw_picture.ensures)
