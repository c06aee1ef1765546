-- `y4m_frame::read_frame` meets its contract: the checks, and then a plane after the other. Assumes nothing.
use Rattle.std.proofs.Common.{sym, ◌∙◌, arith}
use Rattle.std.proofs.lemmas.Result.{err_from_is_err_and}
use Rattle.y4m_frame.proofs.Answers.{readable, read_refused, read_done}
use Rattle.y4m_frame.proofs.read_frame.Goals as goal

pub returns-in_err-next : goal.returns-in_err-next
returns-in_err-next c =
    let p = err_from_is_err_and c.from_residual.result c.from_residual.ensures.1 in
    rw (p.1, p.2) (read_refused _ _ c.checked.ensures _ c.in_err-next.was)

pub overflow_add-luma : goal.overflow_add-luma
overflow_add-luma c = omega (arith, (readable _ _ _ _ _ _ _ _ (sym c.checked.ensures ∙ c.in_ok-next.was)).inside)

pub overflow_add-first : goal.overflow_add-first
overflow_add-first c = omega (arith, (readable _ _ _ _ _ _ _ _ (sym c.checked.ensures ∙ c.in_ok-next.was)).inside)

pub overflow_add-second : goal.overflow_add-second
overflow_add-second c = omega (arith, (readable _ _ _ _ _ _ _ _ (sym c.checked.ensures ∙ c.in_ok-next.was)).inside)

pub read_plane-requires : goal.read_plane-requires
read_plane-requires c = omega (arith, (readable _ _ _ _ _ _ _ _ (sym c.checked.ensures ∙ c.in_ok-next.was)).inside)

pub read_plane-requires-2 : goal.read_plane-requires-2
read_plane-requires-2 c = omega (arith, (readable _ _ _ _ _ _ _ _ (sym c.checked.ensures ∙ c.in_ok-next.was)).inside)

pub read_plane-requires-3 : goal.read_plane-requires-3
read_plane-requires-3 c =
    let r = readable _ _ _ _ _ _ _ _ (sym c.checked.ensures ∙ c.in_ok-next.was) in
    omega (arith, r.inside, r.u_long, r.v_long)

pub returns : goal.returns
returns c =
    read_done _ _ c.checked.ensures _ _ _ _
    c.in_ok-next.was
    c.read_plane.ensures
    c.read_plane-2.ensures c.read_plane-3.ensures
