-- `y4m_frame_out::chroma_length` meets its contract: by the chroma format. Assumes nothing.
use native.Mathlib.Omega.{arith}
use borrow.Author.Rules.{rules}
use Rattle.y4m_rules.proofs.Runs.{quarter}
use Rattle.y4m_frame_out.proofs.chroma_length.Statement.{statement}
use Rattle.y4m_frame_out.proofs.chroma_length.Tie as tie

mul_in_format : tie.Need-overflow_mul-w
mul_in_format c = omega (arith, quarter c.args.w c.args.h c.requires.0 c.requires.1)

pub chroma_length_spec : {M : Type 1} → statement M
chroma_length_spec = tie.close (tie.spec mul_in_format (λ c κs. search rules) (λ c. c.in_format.ensures))
