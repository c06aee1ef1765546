-- `y4m_header_out::print::put_ratio` meets its contract: a number, the colon and a number. Assumes nothing.
use mathlib.Core.Path.{◌∙◌}
use native.Mathlib.Omega.{arith}
use borrow.Author.Rules.{rules}
use lib.ListN.{length-set}
use Rattle.edges.proofs.Puts.{put_then}
use Rattle.sheet.proofs.Puts.{put_byte}
use Rattle.y4m_header_out.proofs.print.put_ratio.Statement.{statement}
use Rattle.y4m_header_out.proofs.print.put_ratio.Tie as tie

put_number_requires_2 : tie.Need-put_number-requires
put_number_requires_2 c κs = (omega arith, simp length-set (omega arith))

same_length : tie.Need-shape_of-out
same_length c = c.put_number.auto.out ∙ simp length-set c.put_number-colon.auto.out

returns : tie.Need-returns
returns c =
    let n = c.put_number-colon in
    let m = c.put_number in
    (put_then n.ensures.0 (put_then (put_byte 58 _ _) m.ensures.0), omega (arith, n.ensures.1, m.ensures.1))

pub put_ratio_spec : {M : Type 1} → statement M
put_ratio_spec =
    tie.close (tie.spec (λ c κs. search rules) (λ c. search rules) (λ c. search rules) put_number_requires_2 same_length returns)
