-- `window::luma_halves` meets its contract: halves of its lines into lanes and back. Assumes nothing.
use Prim.Native.Nat.{◌+◌, ◌-◌, ◌*◌, ◌<◌}
use mathlib.Core.Path.{sym}
use native.Mathlib.Omega.{arith}
use borrow.Author.Rules.{rules}
use lib.Dec.{lit≤}
use lib.ListN.{length}
use Rattle.lanes.specs.Lanes.{halves}
use Rattle.lanes.proofs.ByLane.{halves_spread}
use Rattle.window.proofs.Lanes.{luma_sts, luma_each, plane_done}
use Rattle.window.proofs.Places.{halves_at, halves_lie}
use Rattle.window.proofs.luma_halves.Statement.{statement}
use Rattle.window.proofs.luma_halves.Tie as tie

-- where the lines lie
lie : (c : tie.After-wide-next) → c.wide-at.result + (4 - 1) * c.wide-next.result + 3 * 1 < length c.args.y.now
lie c =
    let l = length c.args.y.now in
    halves_lie c.args.p 4 l l c.wide-next.result c.wide-at.result (omega arith) c.requires c.wide-next.ensures.0 c.wide-at.ensures.0

same_length : tie.Need-shape_of-y
same_length c = c.scatter.auto.s

returns : tie.Need-returns
returns c =
    let a = c.args in
    let b = halves_at a.p 4 (length a.y.now) c.requires in
    let f = c.wide-at in
    let g = c.wide-next in
    let r = c.lanes_by_halves-r in
    let m = c.mask_of-all.ensures in
    plane_done halves halves_spread _ _ a.p 1 g.result f.result m (sym b.below) g.ensures.0 f.ensures.0
    (λ k. a.st) 0 4 a.y.now _ _ (luma_sts a.st 0) r.result (lit≤ tt)
    c.gather-t.ensures.lines (luma_each a.st) r.ensures c.scatter.ensures

pub luma_halves_spec : {M : Type 1} → statement M
luma_halves_spec =
    tie.close
    (tie.spec (λ c κs. search rules) (λ c κs. search rules) (λ c κs. tt) (λ c κs. (lit≤ tt, lie c.before))
    (λ c κs. tt) (λ c κs. (lit≤ tt, lie c.before.before.before.before.before)) same_length returns)
