-- `nbr::get_nbr`: the checks of the form, and past them the run.
use Rattle.std.proofs.Common.{sym, ◌∙◌, length}
use Rattle.std.proofs.lemmas.Result.{err_from_is_err_and}
use Rattle.nbr.specs.Gather.{Around}
use Rattle.nbr.proofs.Gathered.{formed, form_refused, form_passed}
use Rattle.nbr.proofs.get_nbr.Goals as goal

pub returns-in_err-checked : goal.returns-in_err-checked
returns-in_err-checked c =
    let p = err_from_is_err_and c.from_residual.result c.from_residual.ensures.1 in
    rw (p.1, p.2) (form_refused _ _ _ c.checked.ensures c.in_err-checked.was)

pub gather-requires : goal.gather-requires
gather-requires c =
    let a = c.args in
    let around : Around =
    record {
      component = a.component;
      w = a.w;
      h = a.h;
      plane = a.plane.now;
      words = a.words.now;
      x = a.x.0;
      y = a.y.0;
      side = a.side;
      constrained = a.constrained;
    } in
    let k = formed around (length a.run.now) (sym c.checked.ensures ∙ c.in_ok-checked.was) in
    (k.block, k.lent, k.run_whole)

pub returns : goal.returns
returns c = c.gather.ensures ∙ form_passed _ _ c.checked.ensures c.in_ok-checked.was
