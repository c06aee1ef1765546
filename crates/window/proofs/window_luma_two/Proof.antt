-- `window::window_luma_two` meets its contract: by rows, by halves, or not at all. Assumes nothing.
use mathlib.Core.Path.{sym, ◌∙◌}
use borrow.Author.Rules.{rules}
use Rattle.laws.proofs.Bools.{both_left}
use Rattle.window.specs.Window.{twice}
use Rattle.window.proofs.Places.{apart_rows, apart_halves, apart_neither, lines_taken, lines_left}
use Rattle.window.proofs.window_luma_two.Statement.{statement}
use Rattle.window.proofs.window_luma_two.Tie as tie

rows_requires : tie.Need-luma_two_rows-requires
rows_requires c κs = sym c.by_rows.ensures ∙ c.if-by_rows.true

returns : tie.Need-returns-then-by_rows
returns c =
    let a = c.args in
    let e = c.by_rows.ensures in
    (apart_rows a.p 8 _ _ e c.if-by_rows.true, lines_taken _ (twice 4 a.s0 a.s1) a.p 8 a.y.now _ c.luma_two_rows.ensures)

halves_requires : tie.Need-luma_two_halves-requires
halves_requires c κs = both_left _ _ (sym c.by_halves_apart.ensures ∙ c.if-by_halves_apart.true)

returns-2 : tie.Need-returns-then-by_halves_apart
returns-2 c =
    let a = c.args in
    let e = c.by_rows.ensures in
    let f = c.by_halves_apart.ensures in
    (apart_halves a.p 8 _ _ e _ f c.if-by_halves_apart.true, lines_taken _ (twice 4 a.s0 a.s1) a.p 8 a.y.now _ c.luma_two_halves.ensures)

returns-3 : tie.Need-returns
returns-3 c =
    let a = c.args in
    let e = c.by_rows.ensures in
    let f = c.by_halves_apart.ensures in
    (apart_neither a.p 8 _ _ e _ f c.if-by_rows.false c.if-by_halves_apart.false, lines_left _ (twice 4 a.s0 a.s1) a.p 8 a.y.now)

pub window_luma_two_spec : {M : Type 1} → statement M
window_luma_two_spec =
    tie.close
    (tie.spec (λ c κs. search rules) rows_requires (λ c. c.luma_two_rows.auto.y) returns (λ c κs. search rules)
    halves_requires (λ c. c.luma_two_halves.auto.y) returns-2 returns-3)
