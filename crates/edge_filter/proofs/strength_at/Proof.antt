-- `edge_filter::strength_at` meets its contract: four times the entry; past the entries it is 0. Assumes nothing.
use mathlib.Core.Path.{refl}
use borrow.Author.Rules.{rules}
use borrow.Author.Tests.{lt-ltb, le-ltb}
use Rattle.edge_filter.specs.Filter.{strength_at}
use Rattle.edge_filter.proofs.strength_at.Statement.{statement}
use Rattle.edge_filter.proofs.strength_at.Tie as tie

returns : tie.Need-returns-then-k-lt624
unfolding strength_at
returns c = rw (lt-ltb _ 624 c.if-k-lt624.true) c.four_times.ensures

returns-2 : tie.Need-returns-else-k-lt624
unfolding strength_at
returns-2 c = rw (le-ltb _ 624 c.if-k-lt624.false) refl

pub strength_at_spec : {M : Type 1} → statement M
strength_at_spec =
    tie.close
    (tie.spec (λ c. search rules) (λ c. search rules) (λ c κs. search rules) returns returns-2)
