-- By what the words come to, and by the size. Assumes nothing.
use Rattle.std.proofs.lemmas.Result.{err_from_is_err_and}
use Rattle.y4m_header.proofs.Answers.{read_malformed, read_size, read_whole}
use Rattle.y4m_header.proofs.read_header.Goals as goal

pub returns-in_err-header : goal.returns-in_err-header
returns-in_err-header c =
    let p = err_from_is_err_and c.from_residual.result c.from_residual.ensures.1 in
    rw (p.1, p.2) (read_malformed _ _ c.header_in.ensures _ c.in_err-header.was)

pub returns-then-not-size_ok : goal.returns-then-not-size_ok
returns-then-not-size_ok c =
    rw c.from.ensures (read_size _ _ c.header_in.ensures _ c.in_ok-header.was _ c.size_ok.ensures c.if-not-size_ok.true)

pub returns : goal.returns
returns c = read_whole _ _ c.header_in.ensures _ c.in_ok-header.was _ c.size_ok.ensures c.if-not-size_ok.false
