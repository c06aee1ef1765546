-- `y4m_header_out::write_header` meets its contract: the checks, and then the text. Assumes nothing.
use Rattle.std.proofs.Common.{sym, ◌∙◌, length, arith}
use Rattle.std.proofs.lemmas.Result.{err_from_is_err_and}
use Rattle.y4m_header_out.proofs.Answers.{writable, write_refused, write_done}
use Rattle.y4m_header_out.proofs.write_header.Goals as goal

pub returns-in_err-checked : goal.returns-in_err-checked
returns-in_err-checked c =
    let p = err_from_is_err_and c.from_residual.result c.from_residual.ensures.1 in
    rw (p.1, p.2) (write_refused _ _ c.checked.ensures _ c.in_err-checked.was)

pub put_header-requires : goal.put_header-requires
put_header-requires c =
    let a = c.args in
    let w = writable a.format a.w a.h a.f a.g a.a a.b (length a.out.now) (sym c.checked.ensures ∙ c.in_ok-checked.was) in
    let n = w.numbers in
    (n.w_small, n.h_small, omega arith, omega arith, omega arith, omega arith, omega arith)

pub returns : goal.returns
returns c = write_done _ _ c.checked.ensures _ _ c.in_ok-checked.was c.put_header.ensures
