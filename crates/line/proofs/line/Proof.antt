-- `line::line` meets its contract: its calls are the steps of `line_made`. Assumes nothing.
use borrow.Author.Rules.{rules}
use Rattle.line.proofs.Lines.{line_made, eighth}
use Rattle.line.proofs.line.Statement.{statement}
use Rattle.line.proofs.line.Tie as tie

returns : tie.Need-returns
returns c =
    let a = c.args in
    line_made a.a a.b a.c a.d a.st _ _ _ _ _ _ _ _
    c.gap.ensures.0
    c.limit-h.ensures.0
    c.gap-2.ensures.0
    c.reach-e.ensures.0
    c.moved.ensures
    c.moved-2.ensures
    c.moved-3.ensures
    c.moved-4.ensures

pub line_spec : {M : Type 1} → statement M
line_spec =
    tie.close
    (tie.spec
    (λ c. search rules)
    (λ c. search rules)
    (λ c. search rules)
    (λ c. search rules)
    (λ c κs. search rules)
    (λ c κs. eighth _ c.gap.ensures.1)
    (λ c κs. search rules)
    (λ c κs. c.limit-h.ensures.1)
    (λ c κs. c.reach-e.ensures.1)
    (λ c κs. c.limit-h.ensures.1)
    (λ c κs. c.limit-h.ensures.1)
    (λ c κs. c.reach-e.ensures.1)
    returns)
