-- `window::window_chroma_two` meets its contract: by rows, by halves, or not at all. Assumes nothing.
use Prim.Native.Nat.{min}
use mathlib.Core.Bool.{◌&&◌}
use mathlib.Core.Path.{◌≡◌, sym, ap, ◌∙◌}
use borrow.Author.Rules.{rules}
use lib.Dec.{leb}
use lib.ListN.{length}
use Rattle.laws.proofs.Bools.{both_left}
use Rattle.window.specs.Window.{by_rows, by_halves, twice}
use Rattle.window.proofs.Places.{apart_rows, apart_halves, apart_neither, lines_taken, lines_left}
use Rattle.window.proofs.window_chroma_two.Statement.{statement}
use Rattle.window.proofs.window_chroma_two.Tie as tie

-- the two tests, by the lengths of the planes
rows_test : (c : tie.After-by_rows) → let a = c.args in
    c.by_rows.result ≡ by_rows a.p 4 (min (length a.u.now) (length a.v.now))
rows_test c = c.by_rows.ensures ∙ ap (by_rows c.args.p 4) c.min-long.ensures

halves_test : (c : tie.After-by_halves_apart) → let a = c.args in
    c.by_halves_apart.result ≡ (by_halves a.p 4 (min (length a.u.now) (length a.v.now)) && leb 4 a.p.next)
halves_test c =
    let p = c.args.p in
    c.by_halves_apart.ensures ∙ (λ i. by_halves p 4 (c.min-long.ensures i) && leb 4 p.next)

rows_requires : tie.Need-chroma_two_rows-requires
rows_requires c κs = sym (rows_test c.before.before.before) ∙ c.if-by_rows.true

same_u : tie.Need-shape_of-u-then-by_rows
same_u c = c.chroma_two_rows.auto.u

same_v : tie.Need-shape_of-v-then-by_rows
same_v c = c.chroma_two_rows.auto.v

returns : tie.Need-returns-then-by_rows
returns c =
    let a = c.args in
    let t = c.if-by_rows.true in
    let w = c.chroma_two_rows.ensures in
    let e = rows_test c.before.before.before.before.before.before.before.before in
    (apart_rows a.p 4 _ _ e t, lines_taken _ (twice 2 a.u0 a.u1) a.p 4 a.u.now _ w.0, lines_taken _ (twice 2 a.v0 a.v1) a.p 4 a.v.now _ w.1)

halves_requires : tie.Need-chroma_two_halves-requires
halves_requires c κs = both_left _ _ (sym (halves_test c.before.before.before) ∙ c.if-by_halves_apart.true)

same_u_2 : tie.Need-shape_of-u-then-by_halves_apart
same_u_2 c = c.chroma_two_halves.auto.u

same_v_2 : tie.Need-shape_of-v-then-by_halves_apart
same_v_2 c = c.chroma_two_halves.auto.v

returns-2 : tie.Need-returns-then-by_halves_apart
returns-2 c =
    let a = c.args in
    let t = c.if-by_halves_apart.true in
    let w = c.chroma_two_halves.ensures in
    let e = rows_test c.before.before.before.before.before.before.before.before.before.before in
    let f = halves_test c.before.before.before.before.before.before.before.before in
    (apart_halves a.p 4 _ _ e _ f t, lines_taken _ (twice 2 a.u0 a.u1) a.p 4 a.u.now _ w.0, lines_taken _ (twice 2 a.v0 a.v1) a.p 4 a.v.now _ w.1)

returns-3 : tie.Need-returns
returns-3 c =
    let a = c.args in
    let s = c.if-by_rows.false in
    let t = c.if-by_halves_apart.false in
    let e = rows_test c.before.before.before in
    let f = halves_test c.before in
    (apart_neither a.p 4 _ _ e _ f s t, lines_left _ (twice 2 a.u0 a.u1) a.p 4 a.u.now, lines_left _ (twice 2 a.v0 a.v1) a.p 4 a.v.now)

pub window_chroma_two_spec : {M : Type 1} → statement M
window_chroma_two_spec =
    tie.close
    (tie.spec (λ c κs. tt) (λ c κs. search rules) rows_requires same_u same_v returns (λ c κs. search rules) halves_requires same_u_2 same_v_2 returns-2 returns-3)
