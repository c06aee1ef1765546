-- `window::by_rows` meets its contract: its three tests. Assumes nothing.
use mathlib.Core.Bool.{◌&&◌}
use borrow.Author.Rules.{rules}
use lib.Dec.{eqb, leb, ltb}
use Rattle.window.specs.Window.{by_rows}
use Rattle.window.proofs.by_rows.Statement.{statement}
use Rattle.window.proofs.by_rows.Tie as tie

returns : tie.Need-returns
unfolding by_rows
returns c =
    let a = c.args in
    let l = c.last.ensures in
    let s = c.wide.ensures.0 in
    λ i. (ltb (l i) a.long && eqb a.p.next 1) && leb a.n (s i)

pub by_rows_spec : {M : Type 1} → statement M
by_rows_spec = tie.close (tie.spec (λ c κs. search rules) (λ c κs. search rules) returns)
