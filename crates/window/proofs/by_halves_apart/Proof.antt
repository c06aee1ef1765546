-- `window::by_halves_apart` meets its contract: its two tests. Assumes nothing.
use mathlib.Core.Bool.{◌&&◌}
use borrow.Author.Rules.{rules}
use lib.Dec.{leb}
use Rattle.window.proofs.by_halves_apart.Statement.{statement}
use Rattle.window.proofs.by_halves_apart.Tie as tie

returns : tie.Need-returns
returns c =
    let e = c.by_halves.ensures in
    λ i. e i && leb 4 c.args.p.next

pub by_halves_apart_spec : {M : Type 1} → statement M
by_halves_apart_spec = tie.close (tie.spec (λ c κs. search rules) returns)
