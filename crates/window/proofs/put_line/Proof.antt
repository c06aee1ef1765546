-- `window::put_line` meets its contract: sample by sample. Assumes nothing.
use borrow.Author.Rules.{rules}
use Rattle.df_rules.proofs.Lanes.{line_put}
use Rattle.window.proofs.put_line.Statement.{statement}
use Rattle.window.proofs.put_line.Tie as tie

returns : tie.Need-returns
returns c =
    let a = c.args in
    line_put a.mask a.step a.at a.q a.s.now _ _ _ _
    c.put_if.ensures
    c.put_if-2.ensures
    c.put_if-3.ensures c.put_if-4.ensures

pub put_line_spec : {M : Type 1} → statement M
put_line_spec =
    tie.close
    (tie.spec (λ c κs. search rules) (λ c. search rules) (λ c κs. search rules) (λ c. search rules) (λ c. search rules) (λ c κs. search rules)
    (λ c. search rules) (λ c. search rules) (λ c κs. search rules) (λ c. search rules) returns)
