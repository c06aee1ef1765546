-- The walks of the roots in turn, up to the first that is refused. Assumes nothing.
use Rattle.std.specs.Prelude.{Err}
use mathlib.Core.Path.{◌≡◌, refl, sym, ap, ◌∙◌}
use Prim.Native.Nat.{ℕ, ◌/◌, ◌<◌}
use native.Mathlib.Omega.{arith}
use borrow.Author.Rules.{rules}
use Rattle.split.specs.Picture.{roots, root_walk}
use Rattle.split.specs.Walk.{Walk, in_turn}
use Rattle.split.proofs.Roots.{roots_units}
use Rattle.split.proofs.Stores.{stored_done, stored_stop}
use Rattle.split.proofs.Walks.{turn_none, turn_done, turn_refused}
use Rattle.split.proofs.walk_picture.Goals as goal

pub loop-i-init : goal.loop-i-init
loop-i-init c = (refl, ap (λ (v : Walk). v.answer) (turn_none _))

pub walk_root-requires : goal.walk_root-requires
walk_root-requires c =
    let p = c.requires in
    (p.0, p.1, omega (arith, c.loop-i-test.true, c.root_count-i-end.ensures.0), c.loop-i.invariant.0)

pub returns-in_err-walk_root : goal.returns-in_err-walk_root
returns-in_err-walk_root c =
    let i = c.loop-i.i in
    let l : i < roots (c.args.w / 4) (c.args.h / 4) = omega (
      arith,
      c.loop-i-test.true,
      c.root_count-i-end.ensures.0,
      roots_units c.requires.0,
    ) in
    let e : c.from_residual.result ≡ Err c.in_err-walk_root.field-0.0 = search rules in
    rw e (sym (turn_refused (root_walk c.args.splits.now (c.args.w / 4) (c.args.h / 4)) i _ _ l c.loop-i.invariant.1
    (stored_stop c.walk_root.ensures _ c.in_err-walk_root.was)))

pub loop-i-preserved : goal.loop-i-preserved
loop-i-preserved c =
    let v = c.loop-i.invariant in
    (c.walk_root.auto.out ∙ v.0, turn_done _ _ v.1 (stored_done c.walk_root.ensures _ c.in_ok-walk_root.was).0)

pub returns : goal.returns
returns c =
    let e : c.loop-i.i ≡ roots (c.args.w / 4) (c.args.h / 4) = omega (arith, c.root_count-i-end.ensures.0, roots_units c.requires.0) in
    sym (ap (λ (n : ℕ). (in_turn (root_walk c.args.splits.now (c.args.w / 4) (c.args.h / 4)) n).answer) (sym e) ∙ c.loop-i.invariant.1)
