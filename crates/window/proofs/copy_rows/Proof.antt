-- `window::copy_rows` meets its contract: its four rows, each over the ones before. Assumes nothing.
use borrow.Author.Rules.{rules}
use Rattle.window.proofs.Rows.{rows_copied}
use Rattle.window.proofs.copy_rows.Statement.{statement}
use Rattle.window.proofs.copy_rows.Tie as tie

returns : tie.Need-returns
returns c =
    rows_copied c.args.mask c.args.to c.args.apart c.args.from c.args.step c.args.n c.args.s.now c.args.r.now _ _ _ _ c.requires.0
    c.copy_row_if.ensures c.copy_row_if-2.ensures
    c.copy_row_if-3.ensures c.copy_row_if-4.ensures

pub copy_rows_spec : {M : Type 1} → statement M
copy_rows_spec =
    tie.close
    (tie.spec (λ c κs. search rules) (λ c. search rules) (λ c. search rules) (λ c κs. search rules) (λ c. search rules) (λ c. search rules) (λ c. search rules) (λ c. search rules)
    (λ c κs. search rules) (λ c. search rules) (λ c. search rules) (λ c. search rules) (λ c. search rules) (λ c κs. search rules) (λ c. search rules) returns)
