-- `window::chroma_two_halves` meets its contract: halves of its lines, of each plane, into lanes and back. Assumes nothing.
use Prim.Native.Nat.{ℕ, ◌+◌, ◌-◌, ◌*◌, ◌≤◌, ◌<◌, min}
use mathlib.Core.Path.{sym}
use native.Mathlib.Omega.{arith}
use borrow.Author.Rules.{rules}
use lib.Dec.{lit≤}
use lib.ListN.{length}
use Rattle.lanes.specs.Lanes.{halves}
use Rattle.lanes.proofs.ByLane.{halves_spread}
use Rattle.window.specs.Window.{twice}
use Rattle.window.proofs.Lanes.{chroma_sts, u_two, v_two, chroma_done}
use Rattle.window.proofs.Places.{halves_at, halves_lie}
use Rattle.window.proofs.chroma_two_halves.Statement.{statement}
use Rattle.window.proofs.chroma_two_halves.Tie as tie

-- where the lines lie, in planes of at least m samples
lie : (c : tie.After-wide-next) → (m : ℕ) → min (length c.args.u.now) (length c.args.v.now) ≤ m
    → c.wide-at.result + (4 - 1) * c.wide-next.result + 3 * 1 < m
lie c m h =
    halves_lie c.args.p 4 _ m c.wide-next.result c.wide-at.result h c.requires c.wide-next.ensures.0 c.wide-at.ensures.0

in_u_lem : (c : tie.After-wide-next) → c.wide-at.result + (4 - 1) * c.wide-next.result + 3 * 1 < length c.args.u.now
in_u_lem c = lie c (length c.args.u.now) (omega arith)

in_v_lem : (c : tie.After-wide-next) → c.wide-at.result + (4 - 1) * c.wide-next.result + 3 * 1 < length c.args.v.now
in_v_lem c = lie c (length c.args.v.now) (omega arith)

gather_requires : tie.Need-gather-tu-requires
gather_requires c κs = (lit≤ tt, in_u_lem c.before)

gather_requires_2 : tie.Need-gather-t-requires
gather_requires_2 c κs = (lit≤ tt, in_v_lem c.before.before)

scatter_requires : tie.Need-scatter-requires
scatter_requires c κs = (lit≤ tt, in_u_lem c.before.before.before.before.before.before)

scatter_requires_2 : tie.Need-scatter-requires-2
scatter_requires_2 c κs = (lit≤ tt, in_v_lem c.before.before.before.before.before.before.before.before.before.before.before)

same_length : tie.Need-shape_of-u
same_length c = c.scatter.auto.s

same_length_2 : tie.Need-shape_of-v
same_length_2 c = c.scatter-2.auto.s

returns : tie.Need-returns
returns c =
    let a = c.args in
    let b = halves_at a.p 4 _ c.requires in
    let f = c.wide-at in
    let g = c.wide-next in
    let r = c.lanes_by_halves-r in
    let m = c.mask_of-inner.ensures in
    chroma_done halves halves_spread _ _ a.p 1 g.result f.result m (sym b.below) g.ensures.0 f.ensures.0
    (twice 2 a.u0 a.u1) (twice 2 a.v0 a.v1) 4 _ _ _ (chroma_sts a.u0 a.u1 a.v0 a.v1) r.result a.u.now a.v.now _ _ (lit≤ tt)
    c.gather-tu.ensures c.gather-t.ensures (u_two a.u0 a.u1 a.v0 a.v1) (v_two a.u0 a.u1 a.v0 a.v1) r.ensures
    c.scatter.ensures c.scatter-2.ensures

pub chroma_two_halves_spec : {M : Type 1} → statement M
chroma_two_halves_spec =
    tie.close
    (tie.spec (λ c κs. search rules) (λ c κs. search rules) (λ c κs. tt) gather_requires gather_requires_2 (λ c κs. tt) scatter_requires scatter_requires_2
    same_length same_length_2 returns)
