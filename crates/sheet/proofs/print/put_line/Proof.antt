-- `sheet::print::put_line` meets its contract: the line stands only after 12. Assumes nothing.
use borrow.Author.Rules.{rules}
use Rattle.sheet.proofs.Puts.{line_put, line_none}
use Rattle.sheet.proofs.print.put_line.Statement.{statement}
use Rattle.sheet.proofs.print.put_line.Tie as tie

returns : tie.Need-returns-then-number-eq12
returns c =
    line_put _ c.args.line c.if-number-eq12.true
    c.put_bytes-next.ensures c.put_decimal.ensures

returns-2 : tie.Need-returns
returns-2 c = line_none _ _ _ _ c.if-number-eq12.false

pub put_line_spec : {M : Type 1} → statement M
put_line_spec = tie.close (tie.spec (λ c κs. search rules) (λ c κs. search rules) (λ c. search rules) returns returns-2)
