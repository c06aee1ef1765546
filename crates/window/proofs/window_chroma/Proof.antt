-- `window::window_chroma` meets its contract: by rows, by halves, or not at all. Assumes nothing.
use Prim.Native.Nat.{min}
use mathlib.Core.Path.{◌≡◌, sym, ap, ◌∙◌}
use borrow.Author.Rules.{rules}
use lib.ListN.{length}
use Rattle.window.specs.Window.{by_rows, by_halves}
use Rattle.window.proofs.Places.{by_rows_lem, by_halves_lem, by_neither}
use Rattle.window.proofs.window_chroma.Statement.{statement}
use Rattle.window.proofs.window_chroma.Tie as tie

-- the two tests, by the lengths of the planes
rows_test : (c : tie.After-by_rows) → let a = c.args in
    c.by_rows.result ≡ by_rows a.p 2 (min (length a.u.now) (length a.v.now))
rows_test c = c.by_rows.ensures ∙ ap (by_rows c.args.p 2) c.min-long.ensures

halves_test : (c : tie.After-by_halves) → let a = c.args in
    c.by_halves.result ≡ by_halves a.p 2 (min (length a.u.now) (length a.v.now))
halves_test c = c.by_halves.ensures ∙ ap (by_halves c.args.p 2) c.min-long.ensures

rows_requires : tie.Need-chroma_rows-requires
rows_requires c κs = sym (rows_test c.before.before.before) ∙ c.if-by_rows.true

same_u : tie.Need-shape_of-u-then-by_rows
same_u c = c.chroma_rows.auto.u

same_v : tie.Need-shape_of-v-then-by_rows
same_v c = c.chroma_rows.auto.v

returns : tie.Need-returns-then-by_rows
returns c =
    let a = c.args in
    let t = c.if-by_rows.true in
    let w = c.chroma_rows.ensures in
    let e = rows_test c.before.before.before.before.before.before.before.before in
    (by_rows_lem a.p 2 _ _ e _ (λ k. a.su) a.u.now _ t w.0, by_rows_lem a.p 2 _ _ e _ (λ k. a.sv) a.v.now _ t w.1)

halves_requires : tie.Need-chroma_halves-requires
halves_requires c κs = sym (halves_test c.before.before.before) ∙ c.if-by_halves.true

same_u_2 : tie.Need-shape_of-u
same_u_2 c = c.chroma_halves.auto.u

same_v_2 : tie.Need-shape_of-v
same_v_2 c = c.chroma_halves.auto.v

returns-2 : tie.Need-returns-then-by_halves
returns-2 c =
    let a = c.args in
    let t = c.if-by_halves.true in
    let w = c.chroma_halves.ensures in
    let e = rows_test c.before.before.before.before.before.before.before.before.before.before in
    let f = halves_test c.before.before.before.before.before.before.before.before in
    (by_halves_lem a.p 2 _ _ e _ (λ k. a.su) a.u.now _ f _ t w.0, by_halves_lem a.p 2 _ _ e _ (λ k. a.sv) a.v.now _ f _ t w.1)

returns-3 : tie.Need-returns-else-by_halves
returns-3 c =
    let a = c.args in
    let s = c.if-by_rows.false in
    let t = c.if-by_halves.false in
    let e = rows_test c.before.before.before in
    let f = halves_test c.before in
    (by_neither a.p 2 _ _ e _ (λ k. a.su) a.u.now _ f s t, by_neither a.p 2 _ _ e _ (λ k. a.sv) a.v.now _ f s t)

pub window_chroma_spec : {M : Type 1} → statement M
window_chroma_spec =
    tie.close
    (tie.spec (λ c κs. tt) (λ c κs. search rules) rows_requires same_u same_v returns (λ c κs. search rules) halves_requires same_u_2 same_v_2 returns-2 returns-3)
