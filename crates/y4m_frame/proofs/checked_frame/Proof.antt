-- `y4m_frame::checked_frame` meets its contract: the line, the length, and the samples. Assumes nothing.
use native.Mathlib.Omega.{arith}
use borrow.Author.Rules.{rules}
use Rattle.y4m_frame.proofs.Answers.{at_line, at_short, at_sample, at_read}
use Rattle.y4m_frame.proofs.checked_frame.Statement.{statement}
use Rattle.y4m_frame.proofs.checked_frame.Tie as tie

returns : tie.Need-returns-then-not-line_ok
returns c = let a = c.args in
    at_line a.s.now a.at a.luma a.chroma _ c.line_ok.ensures c.if-not-line_ok.true-raw _ c.line_place.ensures

returns-2 : tie.Need-returns-then-s-at
returns-2 c = let a = c.args in rw c.from.ensures (at_short a.s.now a.at a.luma a.chroma _ c.line_ok.ensures c.if-not-line_ok.false-raw (omega arith))

returns-3 : tie.Need-returns-then-s-at-2
returns-3 c = let a = c.args in
    rw c.from-then-s-at-2.ensures (at_short a.s.now a.at a.luma a.chroma _ c.line_ok.ensures c.if-not-line_ok.false-raw (omega arith))

returns-4 : tie.Need-returns-then-not-planes_ok
returns-4 c =
    let a = c.args in
    rw c.from-then-not-planes_ok.ensures
    (at_sample a.s.now a.at a.luma a.chroma _ c.line_ok.ensures
    c.if-not-line_ok.false-raw (omega arith) _ c.planes_ok.ensures c.if-not-planes_ok.true-raw)

returns-5 : tie.Need-returns
returns-5 c =
    let a = c.args in
    at_read a.s.now a.at a.luma a.chroma _ c.line_ok.ensures c.if-not-line_ok.false-raw
    (omega arith) _ c.planes_ok.ensures c.if-not-planes_ok.false-raw _ (omega arith)

pub checked_frame_spec : {M : Type 1} → statement M
checked_frame_spec =
    tie.close
    (tie.spec
    (λ c κs. search rules)
    (λ c κs. search rules)
    returns
    (λ c κs. search rules)
    returns-2
    (λ c. search rules)
    (λ c. search rules)
    (λ c. search rules)
    (λ c. search rules)
    (λ c. search rules)
    (λ c κs. search rules)
    returns-3
    (λ c κs. search rules)
    (λ c κs. search rules)
    returns-4
    (λ c. search rules)
    returns-5)
