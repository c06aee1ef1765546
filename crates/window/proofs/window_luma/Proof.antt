-- `window::window_luma` meets its contract: by rows, by halves, or not at all. Assumes nothing.
use mathlib.Core.Path.{sym, ◌∙◌}
use borrow.Author.Rules.{rules}
use Rattle.window.proofs.Places.{by_rows_lem, by_halves_lem, by_neither}
use Rattle.window.proofs.window_luma.Statement.{statement}
use Rattle.window.proofs.window_luma.Tie as tie

rows_requires : tie.Need-luma_rows-requires
rows_requires c κs = sym c.by_rows.ensures ∙ c.if-by_rows.true

returns : tie.Need-returns-then-by_rows
returns c =
    let a = c.args in
    let e = c.by_rows.ensures in
    by_rows_lem a.p 4 _ _ e _ (λ k. a.st) a.y.now _ c.if-by_rows.true c.luma_rows.ensures

halves_requires : tie.Need-luma_halves-requires
halves_requires c κs = sym c.by_halves.ensures ∙ c.if-by_halves.true

returns-2 : tie.Need-returns-then-by_halves
returns-2 c =
    let a = c.args in
    let e = c.by_rows.ensures in
    let f = c.by_halves.ensures in
    by_halves_lem a.p 4 _ _ e _ (λ k. a.st) a.y.now _ f _ c.if-by_halves.true c.luma_halves.ensures

returns-3 : tie.Need-returns-else-by_halves
returns-3 c =
    let a = c.args in
    let e = c.by_rows.ensures in
    let f = c.by_halves.ensures in
    by_neither a.p 4 _ _ e _ (λ k. a.st) a.y.now _ f c.if-by_rows.false c.if-by_halves.false

pub window_luma_spec : {M : Type 1} → statement M
window_luma_spec =
    tie.close
    (tie.spec (λ c κs. search rules) rows_requires (λ c. c.luma_rows.auto.y) returns (λ c κs. search rules)
    halves_requires (λ c. c.luma_halves.auto.y) returns-2 returns-3)
