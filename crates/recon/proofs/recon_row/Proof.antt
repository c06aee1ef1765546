-- `recon::recon_row` meets its contract: one loop for each value of the flag. Assumes nothing.
use mathlib.Core.Bool.{true, false}
use borrow.Author.Rules.{rules}
use Rattle.recon.proofs.Rows.{row_known}
use Rattle.recon.proofs.recon_row.Statement.{statement}
use Rattle.recon.proofs.recon_row.Tie as tie

returns : tie.Need-returns-then-coded
returns c =
    let a = c.args in
    row_known _ a.pred.now a.coef.now a.rec.now _ true a.at a.n a.from c.if-coded.true c.add_row.ensures

returns-2 : tie.Need-returns-else-coded
returns-2 c =
    let a = c.args in
    row_known _ a.pred.now a.coef.now a.rec.now _ false a.at a.n a.from c.if-coded.false c.copy_row.ensures

pub recon_row_spec : {M : Type 1} → statement M
recon_row_spec =
    tie.close
    (tie.spec (λ c κs. search rules) (λ c κs. search rules) (λ c. search rules) returns (λ c. search rules) returns-2)
