-- `y4m_frame_out::bytes::put_line` meets its contract: one byte after the other. Assumes nothing.
use native.Mathlib.Omega.{arith}
use borrow.Author.Rules.{rules}
use lib.ListN.{length-set}
use Rattle.y4m_frame_out.proofs.bytes.put_line.Statement.{statement}
use Rattle.y4m_frame_out.proofs.bytes.put_line.Tie as tie

pub put_line_spec : {M : Type 1} → statement M
put_line_spec =
    tie.close
    (tie.spec
    (λ c. search rules)
    (λ c. simp length-set (omega arith))
    (λ c. simp length-set (omega arith))
    (λ c. simp length-set (omega arith))
    (λ c. simp length-set (omega arith))
    (λ c. simp length-set (omega arith))
    (λ c. search rules)
    (λ c. search rules))
