-- `rows::run::clear_first` meets its contract: one store, or none. Assumes nothing.
use borrow.Author.Rules.{rules}
use borrow.Author.Tests.{eq-eqb, ne_eqb}
use Rattle.rows.proofs.run.clear_first.Statement.{statement}
use Rattle.rows.proofs.run.clear_first.Tie as tie

returns : tie.Need-returns-then-x-ne0
returns c = rw (ne_eqb _ _ c.if-x-ne0.true)

returns-2 : tie.Need-returns
returns-2 c = rw (eq-eqb _ _ c.if-x-ne0.false)

pub clear_first_spec : {M : Type 1} → statement M
clear_first_spec = tie.close (tie.spec returns (λ c. search rules) (λ c. search rules) returns-2)
