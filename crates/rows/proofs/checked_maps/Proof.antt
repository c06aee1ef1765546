-- `rows::checked_maps` meets its contract: a row of two checks. Assumes nothing.
use mathlib.Core.Path.{refl, sym, ◌∙◌}
use borrow.Author.Rules.{rules}
use Rattle.laws.proofs.Calls.{stops, goes_on}
use Rattle.def.proofs.Sizes.{sized}
use Rattle.rows_rules.specs.Checks.{check_maps}
use Rattle.rows.proofs.checked_maps.Statement.{statement}
use Rattle.rows.proofs.checked_maps.Tie as tie

returns : tie.Need-returns-then-not-size_ok
unfolding check_maps
returns c = stops _ _ _ _ c.size_ok.ensures c.if-not-size_ok.true-raw

lengths_ok_requires : tie.Need-lengths_ok-requires
lengths_ok_requires c κs =
    let s = sized _ _ (sym c.size_ok.ensures ∙ c.if-not-size_ok.false) in
    (s.wide, s.high)

returns-2 : tie.Need-returns-then-not-lengths_ok
unfolding check_maps
returns-2 c =
    goes_on _ _ _ _ _ c.size_ok.ensures c.if-not-size_ok.false-raw (stops _ _ _ _ c.lengths_ok.ensures c.if-not-lengths_ok.true-raw)

returns-3 : tie.Need-returns
unfolding check_maps
returns-3 c =
    goes_on _ _ _ _ _ c.size_ok.ensures c.if-not-size_ok.false-raw (goes_on _ _ _ _ _ c.lengths_ok.ensures c.if-not-lengths_ok.false-raw refl)

pub checked_maps_spec : {M : Type 1} → statement M
checked_maps_spec = tie.close (tie.spec (λ c κs. search rules) returns lengths_ok_requires returns-2 returns-3)
