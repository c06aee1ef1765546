-- `y4m_header::words::head_length` meets its contract: by the test. Assumes nothing.
use native.Mathlib.Omega.{arith}
use borrow.Author.Tests.{lt-ltb, le-ltb}
use Rattle.y4m_header.proofs.words.head_length.Statement.{statement}
use Rattle.y4m_header.proofs.words.head_length.Tie as tie

pub head_length_spec : {M : Type 1} → statement M
head_length_spec = tie.close (tie.spec (λ c. rw (lt-ltb c.args.n 256 (omega arith))) (λ c. rw (le-ltb c.args.n 256 (omega arith))))
