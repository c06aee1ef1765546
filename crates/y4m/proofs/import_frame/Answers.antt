-- By the header, and then by the frame. Assumes nothing.
use Rattle.std.proofs.lemmas.Result.{err_from_is_err_and}
use Rattle.y4m.proofs.Outcomes.{no_header, no_frame, whole}
use Rattle.y4m.proofs.import_frame.Goals as goal

pub returns-in_err-header : goal.returns-in_err-header
returns-in_err-header c =
    let p = err_from_is_err_and c.from_residual.result c.from_residual.ensures.1 in
    rw (p.1, p.2) (no_header _ _ c.read_header.ensures _ c.in_err-header.was)

pub returns-in_err-next : goal.returns-in_err-next
returns-in_err-next c =
    let p = err_from_is_err_and c.from_residual-in_err-next.result c.from_residual-in_err-next.ensures.1 in
    rw (p.1, p.2) (no_frame _ _ c.read_header.ensures _ c.in_ok-header.was _ _ _ _ c.read_frame.ensures _ c.in_err-next.was)

pub returns : goal.returns
returns c = whole _ _ c.read_header.ensures _ c.in_ok-header.was _ _ _ _ c.read_frame.ensures _ c.in_ok-next.was
