-- `y4m_header::words::told_word` meets its contract: no letter, or one. Assumes nothing.
use borrow.Author.Rules.{rules}
use Rattle.y4m_header.proofs.Forms.{word_none, word_some}
use Rattle.y4m_header.proofs.words.told_word.Statement.{statement}
use Rattle.y4m_header.proofs.words.told_word.Tie as tie

returns : tie.Need-returns-then-word-eq0
returns c = let a = c.args in word_none a.word.now a.said c.if-word-eq0.true

returns-2 : tie.Need-returns
returns-2 c = let a = c.args in word_some a.word.now a.said _ c.if-word-eq0.false c.told_letter.ensures

pub told_word_spec : {M : Type 1} → statement M
told_word_spec =
    tie.close
    (tie.spec returns (λ c. search rules) (λ c. search rules) (λ c. search rules) (λ c. search rules) (λ c κs. search rules) returns-2)
