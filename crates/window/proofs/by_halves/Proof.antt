-- `window::by_halves` meets its contract: its two tests. Assumes nothing.
use mathlib.Core.Bool.{◌&&◌}
use borrow.Author.Rules.{rules}
use lib.Dec.{eqb, ltb}
use Rattle.window.specs.Window.{by_halves}
use Rattle.window.proofs.by_halves.Statement.{statement}
use Rattle.window.proofs.by_halves.Tie as tie

returns : tie.Need-returns
unfolding by_halves
returns c =
    let a = c.args in
    let l = c.last.ensures in
    λ i. ltb (l i) a.long && eqb a.p.step 1

pub by_halves_spec : {M : Type 1} → statement M
by_halves_spec = tie.close (tie.spec (λ c κs. search rules) returns)
