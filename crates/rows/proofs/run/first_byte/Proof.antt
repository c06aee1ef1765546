-- `rows::run::first_byte` meets its contract: no unit left of it, or the row of the two. Assumes nothing.
use borrow.Author.Rules.{rules}
use borrow.Author.Tests.{eq-eqb, ne_eqb}
use Rattle.rows_rules.specs.Runs.{first_byte}
use Rattle.rows.proofs.run.first_byte.Statement.{statement}
use Rattle.rows.proofs.run.first_byte.Tie as tie

returns : tie.Need-returns-then-k-eq0
unfolding first_byte
returns c = rw (eq-eqb _ _ c.if-k-eq0.true)

returns-2 : tie.Need-returns
unfolding first_byte
returns-2 c = rw (ne_eqb _ _ c.if-k-eq0.false) c.row_at.ensures.0

pub first_byte_spec : {M : Type 1} → statement M
first_byte_spec = tie.close (tie.spec returns (λ c. search rules) (λ c κs. search rules) (λ c. search rules) returns-2)
