-- `window::window_kept` meets its contract: line by line into lanes and back, or not at all. Assumes nothing.
use Prim.Native.Nat.{◌+◌, ◌-◌, ◌*◌, ◌<◌}
use mathlib.Core.Path.{refl}
use native.Mathlib.Omega.{arith}
use borrow.Author.Rules.{rules}
use lib.ListN.{length}
use Rattle.lanes.specs.Lanes.{halves}
use Rattle.lanes.proofs.ByLane.{halves_spread}
use Rattle.window.proofs.Lanes.{luma_sts, luma_each, plane_done}
use Rattle.window.proofs.Places.{last_by, kept_in, kept_out}
use Rattle.window.proofs.window_kept.Statement.{statement}
use Rattle.window.proofs.window_kept.Tie as tie

-- where the lines lie
lie : (c : tie.After-wide-next) → let n = c.lines_in-n.result in
    c.wide-at.result + (n - 1) * c.wide-next.result + 3 * c.wide-step.result < length c.args.s.now
lie c =
    let n = c.lines_in-n.result in
    let l = c.last.ensures in
    let e = last_by c.args.p n c.wide-step.result c.wide-next.result c.wide-at.result
    c.wide-step.ensures.0 c.wide-next.ensures.0 c.wide-at.ensures.0 in
    let t = c.if-last-s.true in
    omega arith

gather_requires : tie.Need-gather-t-requires
gather_requires c κs = (omega (arith, c.lines_in-n.ensures.2), lie c)

scatter_requires : tie.Need-scatter-requires
scatter_requires c κs = (omega (arith, c.lines_in-n.ensures.2), lie c.before.before.before.before)

same_length : tie.Need-shape_of-s
same_length c = c.scatter.auto.s

returns : tie.Need-returns-then-last-s
returns c =
    let a = c.args in
    let n = c.lines_in-n in
    let l = c.last in
    let few = n.ensures.2 in
    let f = c.wide-at in
    let g = c.wide-step in
    let h = c.wide-next in
    let r = c.lanes_by_halves-r in
    kept_in a.p n.result _ l.result (length a.s.now) n.ensures.0 l.ensures a.mask (λ k. a.st) a.s.now _ c.if-last-s.true
    (plane_done halves halves_spread _ _ a.p g.result h.result f.result refl g.ensures.0 h.ensures.0 f.ensures.0
    (λ k. a.st) 0 n.result a.s.now _ _ (luma_sts a.st 0) r.result (omega arith)
    c.gather-t.ensures.lines (λ k i. luma_each a.st k (omega arith))
    r.ensures c.scatter.ensures)

returns-2 : tie.Need-returns-else-last-s
returns-2 c =
    let a = c.args in
    let n = c.lines_in-n in
    let l = c.last in
    kept_out a.p n.result _ l.result (length a.s.now) n.ensures.0 l.ensures a.mask (λ k. a.st) a.s.now c.if-last-s.false

pub window_kept_spec : {M : Type 1} → statement M
window_kept_spec =
    tie.close
    (tie.spec (λ c κs. tt) (λ c κs. search rules) (λ c κs. tt) (λ c κs. tt) (λ c κs. tt) gather_requires (λ c κs. tt) scatter_requires same_length returns returns-2)
