-- `window::chroma_two_rows` meets its contract: four rows of each plane into lanes and back. Assumes nothing.
use Prim.Native.Nat.{ℕ, ◌+◌, ◌*◌, ◌≤◌, min}
use mathlib.Core.Path.{refl, sym}
use native.Mathlib.Omega.{arith}
use borrow.Author.Rules.{rules}
use lib.Dec.{lit≤}
use lib.ListN.{length}
use Rattle.lanes.specs.Lanes.{rows}
use Rattle.lanes.proofs.ByLane.{rows_spread}
use Rattle.window.specs.Window.{twice}
use Rattle.window.proofs.Lanes.{chroma_sts, u_two, v_two, chroma_done}
use Rattle.window.proofs.Places.{rows_at, rows_lie}
use Rattle.window.proofs.Rows.{gathered}
use Rattle.window.proofs.chroma_two_rows.Statement.{statement}
use Rattle.window.proofs.chroma_two_rows.Tie as tie

-- where the rows lie, in planes of at least m samples
lie : (c : tie.After-wide-step) → (m : ℕ) → min (length c.args.u.now) (length c.args.v.now) ≤ m
    → (4 ≤ c.wide-step.result) × (c.wide-at.result + 4 + 3 * c.wide-step.result ≤ m)
lie c m h =
    let f = c.wide-at in
    rows_lie c.args.p 4 _ m c.wide-step.result f.result (lit≤ tt) h c.requires c.wide-step.ensures.0 f.ensures.0

in_u_lem : (c : tie.After-wide-step) → (4 ≤ c.wide-step.result) × (c.wide-at.result + 4 + 3 * c.wide-step.result ≤ length c.args.u.now)
in_u_lem c = lie c (length c.args.u.now) (omega arith)

in_v_lem : (c : tie.After-wide-step) → (4 ≤ c.wide-step.result) × (c.wide-at.result + 4 + 3 * c.wide-step.result ≤ length c.args.v.now)
in_v_lem c = lie c (length c.args.v.now) (omega arith)

copy_rows_requires : tie.Need-copy_rows-requires
copy_rows_requires c κs = (lit≤ tt, search rules, (in_u_lem c.before.before.before).1)

copy_rows_requires_2 : tie.Need-copy_rows-requires-2
copy_rows_requires_2 c κs = (lit≤ tt, search rules, (in_v_lem c.before.before.before.before.before.before).1)

copy_rows_requires_3 : tie.Need-copy_rows-requires-3
copy_rows_requires_3 c κs =
    let l = in_u_lem c.before.before.before.before.before.before.before.before.before.before.before in
    (l.0, l.1, search rules)

copy_rows_requires_4 : tie.Need-copy_rows-requires-4
copy_rows_requires_4 c κs =
    let l = in_v_lem c.before.before.before.before.before.before.before.before.before.before.before.before.before.before.before.before in
    (l.0, l.1, search rules)

same_length : tie.Need-shape_of-u
same_length c = c.copy_rows-3.auto.r

same_length_2 : tie.Need-shape_of-v
same_length_2 c = c.copy_rows-4.auto.r

returns : tie.Need-returns
returns c =
    let a = c.args in
    let b = rows_at a.p 4 _ (lit≤ tt) c.requires in
    let f = c.wide-at in
    let g = c.wide-step in
    let m = c.mask_of-all.ensures in
    let r = c.lanes-r in
    let t = c.copy_rows.ensures in
    let i = c.mask_of-inner.ensures in
    chroma_done rows rows_spread _ _ a.p g.result 1 f.result i g.ensures.0 (sym b.beside) f.ensures.0
    (twice 2 a.u0 a.u1) (twice 2 a.v0 a.v1) 4 _ _ _ (chroma_sts a.u0 a.u1 a.v0 a.v1) r.result a.u.now a.v.now _ _ (lit≤ tt)
    (gathered _ g.result f.result a.u.now _ _ 0 4 m (lit≤ tt) refl t)
    (gathered _ g.result f.result a.v.now _ _ 4 4 m (lit≤ tt) c.copy_rows.auto.r c.copy_rows-2.ensures)
    (u_two a.u0 a.u1 a.v0 a.v1) (v_two a.u0 a.u1 a.v0 a.v1) r.ensures
    c.copy_rows-3.ensures c.copy_rows-4.ensures

pub chroma_two_rows_spec : {M : Type 1} → statement M
chroma_two_rows_spec =
    tie.close
    (tie.spec (λ c κs. search rules) (λ c κs. search rules) (λ c κs. tt) (λ c κs. tt) (λ c. refl) copy_rows_requires (λ c. search rules) copy_rows_requires_2 (λ c κs. tt)
    (λ c. search rules) copy_rows_requires_3 (λ c. search rules) copy_rows_requires_4 same_length same_length_2 returns)
