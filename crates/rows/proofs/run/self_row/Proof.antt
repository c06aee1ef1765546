-- `rows::run::self_row` meets its contract: intra, luma-coded, or 3. Assumes nothing.
use mathlib.Core.Path.{sym, ◌∙◌}
use native.Mathlib.Omega.{arith}
use borrow.Author.Rules.{rules}
use Rattle.rows_rules.specs.Runs.{self_row}
use Rattle.rows.proofs.run.self_row.Statement.{statement}
use Rattle.rows.proofs.run.self_row.Tie as tie

returns : tie.Need-returns-then-get_if
unfolding self_row
returns c = (rw (sym c.get_if.ensures ∙ c.if-get_if.true), omega arith)

returns-2 : tie.Need-returns-then-get_cbfl
unfolding self_row
returns-2 c = (rw (sym c.get_if.ensures ∙ c.if-get_if.false, sym c.get_cbfl.ensures ∙ c.if-get_cbfl.true), omega arith)

returns-3 : tie.Need-returns
unfolding self_row
returns-3 c = (rw (sym c.get_if.ensures ∙ c.if-get_if.false, sym c.get_cbfl.ensures ∙ c.if-get_cbfl.false), omega arith)

pub self_row_spec : {M : Type 1} → statement M
self_row_spec = tie.close (tie.spec (λ c κs. search rules) returns (λ c κs. search rules) returns-2 returns-3)
