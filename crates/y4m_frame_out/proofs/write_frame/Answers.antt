-- `y4m_frame_out::write_frame` meets its contract: the checks, and then the line and a plane after the other. Assumes nothing.
use Rattle.std.proofs.Common.{sym, ◌∙◌, arith}
use Rattle.std.proofs.lemmas.Result.{err_from_is_err_and}
use Rattle.y4m_rules.proofs.Frames.{bytes_long}
use Rattle.y4m_frame_out.proofs.Answers.{writable, write_refused, write_done}
use Rattle.y4m_frame_out.proofs.write_frame.Goals as goal

pub returns-in_err-checked_picture : goal.returns-in_err-checked_picture
returns-in_err-checked_picture c =
    let p = err_from_is_err_and c.from_residual.result c.from_residual.ensures.1 in
    rw (p.1, p.2) (write_refused _ _ c.checked_picture.ensures _ c.in_err-checked_picture.was)

pub put_line-luma-requires : goal.put_line-luma-requires
put_line-luma-requires c =
    let a = c.args in
    omega (arith, (writable a.format a.w a.h a.y.now a.u.now a.v.now _ (sym c.checked_picture.ensures ∙ c.in_ok-checked_picture.was)).out_long)

pub put_plane-first-requires : goal.put_plane-first-requires
put_plane-first-requires c =
    let a = c.args in
    let l = c.put_line-luma in
    omega (arith, (writable a.format a.w a.h a.y.now a.u.now a.v.now _ (sym c.checked_picture.ensures ∙ c.in_ok-checked_picture.was)).out_long, l.ensures.count, l.auto.out)

pub put_plane-second-requires : goal.put_plane-second-requires
put_plane-second-requires c =
    let a = c.args in
    let l = c.put_line-luma in
    let y = c.put_plane-first in
    let w = writable a.format a.w a.h a.y.now a.u.now a.v.now _ (sym c.checked_picture.ensures ∙ c.in_ok-checked_picture.was) in
    omega (arith, w.out_long, l.ensures.count, l.auto.out, y.ensures.count, y.auto.out, bytes_long a.y.now)

pub put_plane-requires : goal.put_plane-requires
put_plane-requires c =
    let a = c.args in
    let l = c.put_line-luma in
    let y = c.put_plane-first in
    let u = c.put_plane-second in
    let w = writable a.format a.w a.h a.y.now a.u.now a.v.now _ (sym c.checked_picture.ensures ∙ c.in_ok-checked_picture.was) in
    omega (arith, w.out_long, l.ensures.count, l.auto.out, y.ensures.count, y.auto.out, u.ensures.count, u.auto.out, bytes_long a.y.now, bytes_long a.u.now)

pub returns : goal.returns
returns c =
    write_done _ _ c.checked_picture.ensures c.in_ok-checked_picture.was
    c.put_line-luma.ensures c.put_plane-first.ensures c.put_plane-second.ensures c.put_plane.ensures
