-- `unit_edits::with_row` meets its contract: what lies above the side's two bits, the row, and what lies below. Assumes nothing.
use borrow.Author.Rules.{rules}
use Rattle.rows_rules.proofs.Sides.{left_put, top_put}
use Rattle.unit_edits.proofs.with_row.Statement.{statement}
use Rattle.unit_edits.proofs.with_row.Tie as tie

returns : tie.Need-returns-in-Left
returns c = rw c.in-Left.is (left_put _ _)

returns-2 : tie.Need-returns-in-Top
returns-2 c = rw c.in-Top.is (top_put _ _)

pub with_row_spec : {M : Type 1} → statement M
with_row_spec =
    tie.close
    (tie.spec
    (λ c. search rules)
    (λ c. search rules)
    (λ c. search rules)
    (λ c. search rules)
    (λ c. search rules)
    (λ c. search rules)
    (λ c. search rules)
    (λ c. search rules)
    returns
    returns-2)
