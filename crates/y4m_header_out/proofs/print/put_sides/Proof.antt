-- `y4m_header_out::print::put_sides` meets its contract: one piece after the other. Assumes nothing.
use native.Mathlib.Omega.{arith}
use borrow.Author.Rules.{rules}
use Rattle.edges.proofs.Puts.{put_then}
use Rattle.y4m_header_out.proofs.print.put_sides.Statement.{statement}
use Rattle.y4m_header_out.proofs.print.put_sides.Tie as tie

returns : tie.Need-returns
returns c =
    let a = c.put_bytes-width in
    let b = c.put_number-next in
    let d = c.put_bytes-height in
    let e = c.put_number in
    (put_then a.ensures (put_then b.ensures.0 (put_then d.ensures e.ensures.0)), omega (arith, a.ensures.count, b.ensures.1, d.ensures.count, e.ensures.1))

pub put_sides_spec : {M : Type 1} → statement M
put_sides_spec =
    tie.close
    (tie.spec
    (λ c κs. search rules)
    (λ c κs. search rules)
    (λ c κs. search rules)
    (λ c κs. search rules)
    (λ c. search rules)
    returns)
