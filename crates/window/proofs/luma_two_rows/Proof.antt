-- `window::luma_two_rows` meets its contract: four rows into lanes and back. Assumes nothing.
use Prim.Native.Nat.{◌+◌, ◌*◌, ◌≤◌}
use mathlib.Core.Path.{refl, sym}
use native.Mathlib.Omega.{arith}
use borrow.Author.Rules.{rules}
use lib.Dec.{lit≤}
use lib.ListN.{length}
use Rattle.lanes.specs.Lanes.{rows}
use Rattle.lanes.proofs.ByLane.{rows_spread}
use Rattle.window.specs.Window.{twice}
use Rattle.window.proofs.Lanes.{luma_sts, luma_two, plane_done}
use Rattle.window.proofs.Places.{rows_at, rows_lie}
use Rattle.window.proofs.Rows.{gathered}
use Rattle.window.proofs.luma_two_rows.Statement.{statement}
use Rattle.window.proofs.luma_two_rows.Tie as tie

-- where the rows lie
lie : (c : tie.After-wide-step) → (8 ≤ c.wide-step.result) × (c.wide-at.result + 8 + 3 * c.wide-step.result ≤ length c.args.y.now)
lie c =
    let l = length c.args.y.now in
    rows_lie c.args.p 8 l l c.wide-step.result c.wide-at.result (lit≤ tt) (omega arith) c.requires c.wide-step.ensures.0 c.wide-at.ensures.0

copy_rows_requires : tie.Need-copy_rows-requires
copy_rows_requires c κs = (lit≤ tt, search rules, (lie c.before.before).1)

copy_rows_requires_2 : tie.Need-copy_rows-requires-2
copy_rows_requires_2 c κs = let l = lie c.before.before.before.before.before.before.before in (l.0, l.1, search rules)

same_length : tie.Need-shape_of-y
same_length c = c.copy_rows-2.auto.r

returns : tie.Need-returns
returns c =
    let a = c.args in
    let b = rows_at a.p 8 (length a.y.now) (lit≤ tt) c.requires in
    let f = c.wide-at in
    let g = c.wide-step in
    let m = c.mask_of-all.ensures in
    let r = c.lanes-r in
    let t = c.copy_rows.ensures in
    plane_done rows rows_spread _ _ a.p g.result 1 f.result m g.ensures.0 (sym b.beside) f.ensures.0 (twice 4 a.s0 a.s1) 0 8 a.y.now _ _
    (luma_sts a.s0 a.s1) r.result (lit≤ tt) (gathered _ g.result f.result a.y.now _ _ 0 8 m (lit≤ tt) refl t).lines
    (luma_two a.s0 a.s1) r.ensures c.copy_rows-2.ensures

pub luma_two_rows_spec : {M : Type 1} → statement M
luma_two_rows_spec =
    tie.close
    (tie.spec (λ c κs. search rules) (λ c κs. search rules) (λ c κs. tt) (λ c. refl) copy_rows_requires (λ c κs. tt) (λ c. search rules) copy_rows_requires_2 same_length returns)
