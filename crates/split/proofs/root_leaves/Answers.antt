-- The leaves are met in a list of its own, and copied only where nothing was refused. Assumes nothing.
use Rattle.std.specs.Prelude.{Err}
use mathlib.Core.List.{List, ◌++◌}
use mathlib.Core.Path.{◌≡◌, ◌∙◌, ap}
use Prim.Native.Nat.{ℕ, ◌*◌}
use native.Mathlib.Omega.{arith}
use borrow.Author.Rules.{rules}
use lib.ListN.{drop, length-take}
use Rattle.split.proofs.Outcomes.{met_room, leaves_done, leaves_refused}
use Rattle.split.proofs.Stores.{copied}
use Rattle.split.proofs.root_leaves.Goals as goal

pub returns-in_err-n : goal.returns-in_err-n
returns-in_err-n c =
    let e : c.from_residual.result ≡ Err c.in_err-n.field-0.0 = search rules in
    rw e (leaves_refused _ _ _ _ c.met_leaves.ensures c.in_err-n.was)

pub slice_bounds-copy_from_slice-end : goal.slice_bounds-copy_from_slice-end
slice_bounds-copy_from_slice-end c = let r = met_room _ c.met_leaves.ensures c.in_ok-n.was in omega (arith, r.0)

pub slice_bounds-copy_from_slice-end-2 : goal.slice_bounds-copy_from_slice-end-2
slice_bounds-copy_from_slice-end-2 c =
    let r = met_room _ c.met_leaves.ensures c.in_ok-n.was in
    omega (arith, r.0, r.1, length-take (3 * c.in_ok-n.n) c.args.out.now)

pub copy_from_slice-requires : goal.copy_from_slice-requires
copy_from_slice-requires c =
    let m = c.met_leaves in
    let r = met_room _ m.ensures c.in_ok-n.was in
    omega (arith, r.0, r.1, length-take (3 * c.in_ok-n.n) c.args.out.now, length-take (3 * c.in_ok-n.n) m.new.list, m.auto.list)

pub returns : goal.returns
returns c =
    let m = c.met_leaves in
    let a = c.args in
    let r = met_room _ m.ensures c.in_ok-n.was in
    let k = 3 * c.in_ok-n.n in
    leaves_done _ _ _ _ _ m.ensures c.in_ok-n.was
    (ap (λ (l : List ℕ). l ++ drop k a.out.now) c.copy_from_slice.ensures.after ∙ copied m.new.list a.out.now k (omega (arith, r.0, m.auto.list)) (omega (arith, r.0, r.1)))
