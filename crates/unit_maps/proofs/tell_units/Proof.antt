-- `unit_maps::tell_units` meets its contract: nothing where the test fails, and else the block. Assumes nothing.
use mathlib.Core.Path.{sym, ◌∙◌}
use borrow.Author.Rules.{rules}
use Rattle.unit_maps.specs.Maps.{Inside}
use Rattle.unit_maps.proofs.Inside.{inside, told_none, told_all}
use Rattle.unit_maps.proofs.tell_units.Statement.{statement}
use Rattle.unit_maps.proofs.tell_units.Tie as tie

returns : tie.Need-returns-then-not-lies
returns c = told_none _ _ _ _ _ _ _ _ _ _ (sym c.lies.ensures ∙ c.if-not-lies.true)

-- the block lies in the maps
there : (c : tie.Else-not-lies) → let a = c.args in Inside a.columns a.x.0 a.y.0 a.n a.words.now a.modes.now a.keep.now
there c = inside _ _ _ _ _ _ _ (sym c.lies.ensures ∙ c.if-not-lies.false)

returns-2 : tie.Need-returns
returns-2 c =
    rw (told_all _ _ _ _ _ _ _ _ _ _ (there c.before.before.before.before.before.before.before.before.before.before)) c.tell_block.ensures

pub tell_units_spec : {M : Type 1} → statement M
tell_units_spec =
    tie.close (tie.spec (λ c κs. search rules) returns (λ c κs. there c.before.before.before) (λ c. search rules) (λ c. search rules) (λ c. search rules) returns-2)
