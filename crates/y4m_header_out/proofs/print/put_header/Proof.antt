-- `y4m_header_out::print::put_header` meets its contract: one piece after the other. Assumes nothing.
use borrow.Author.Rules.{rules}
use Rattle.edges.proofs.Puts.{put_as, put_then}
use Rattle.y4m_rules.proofs.Printing.{header_text_lem}
use Rattle.y4m_header_out.proofs.print.put_header.Statement.{statement}
use Rattle.y4m_header_out.proofs.print.put_header.Tie as tie

returns : tie.Need-returns
returns c =
    let a = c.args in
    put_as (header_text_lem a.w a.h a.f a.g a.a a.b)
    (put_then c.put_sides-sides.ensures.0
    (put_then c.put_bytes-rate.ensures
    (put_then c.put_ratio-next.ensures.0
    (put_then c.put_bytes-aspect.ensures
    (put_then c.put_ratio-last.ensures.0
    c.put_bytes.ensures)))))

pub put_header_spec : {M : Type 1} → statement M
put_header_spec =
    tie.close
    (tie.spec
    (λ c κs. search rules)
    (λ c κs. search rules)
    (λ c κs. search rules)
    (λ c κs. search rules)
    (λ c κs. search rules)
    (λ c κs. search rules)
    (λ c. search rules)
    returns)
