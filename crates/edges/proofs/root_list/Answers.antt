-- `edges::root_list` meets its contract: 1, 2, then what `leaves` finds; and the edges of the leaves that it listed. Assumes nothing.
use mathlib.Core.Bool.{true}
use mathlib.Core.Path.{◌≡◌, refl, sym, ◌∙◌}
use Prim.Native.Nat.{ℕ, ◌+◌, ◌-◌, ◌/◌, ◌≤◌}
use lib.ListN.{length}
use native.Mathlib.Omega.{arith}
use Rattle.std.proofs.lemmas.Result.{err_from_is_err_and}
use Rattle.def.proofs.Sizes.{sized}
use Rattle.def.specs.Picture.{size_ok}
use Rattle.split.specs.RootCall.{Input}
use Rattle.edges.proofs.RootLists.{Early, size_refused, top_refused, long_refused, leaves_refused, root_ready, root_done}
use Rattle.edges.proofs.root_list.Goals as goal

high : (w h : ℕ) → size_ok w h ≡ true → h / 4 ≤ 1024
high w h e = omega (arith, (sized w h e).high)

top_fine : (w h top : ℕ) → size_ok w h ≡ true → top ≤ 1024 - h / 4 → top + h / 4 ≤ 1024
top_fine w h top e l = omega (arith, high w h e)

-- the checks before the call for the leaves passed
early : (i : Input) → size_ok i.w i.h ≡ true → i.top ≤ 1024 - i.h / 4 → length i.out ≡ 512 → Early i
early i e l n = record { size = e; high = top_fine i.w i.h i.top e l; long = n }

pub returns-then-not-size_ok : goal.returns-then-not-size_ok
returns-then-not-size_ok c = size_refused _ (sym c.size_ok.ensures ∙ c.if-not-size_ok.true)

pub overflow_sub-h : goal.overflow_sub-h
overflow_sub-h c = high c.args.w c.args.h (sym c.size_ok.ensures ∙ c.if-not-size_ok.false)

pub returns-then-h-top : goal.returns-then-h-top
returns-then-h-top c = top_refused _ (sym c.size_ok.ensures ∙ c.if-not-size_ok.false) (omega (arith, c.if-h-top.true))

pub returns-then-out-ne512 : goal.returns-then-out-ne512
returns-then-out-ne512 c =
    let size = sym c.size_ok.ensures ∙ c.if-not-size_ok.false in
    long_refused _ size (top_fine c.args.w c.args.h c.args.top size c.if-h-top.false) c.if-out-ne512.true

pub returns-in_err-n : goal.returns-in_err-n
returns-in_err-n c =
    let p = err_from_is_err_and c.from_residual.result c.from_residual.ensures.1 in
    rw (p.1, p.2) (leaves_refused _ (early _ (sym c.size_ok.ensures ∙ c.if-not-size_ok.false) c.if-h-top.false c.if-out-ne512.false) _ _ _ _ refl c.leaves.ensures c.in_err-n.was)

pub leaves_edges-k-requires : goal.leaves_edges-k-requires
leaves_edges-k-requires c =
    let a = c.args in
    let i : Input = record { w = a.w; h = a.h; splits = a.splits.now; x = a.x.0; y = a.y.0; horizontal = a.horizontal; halved = a.halved; top = a.top; out = a.out.now } in
    root_ready i (early i (sym c.size_ok.ensures ∙ c.if-not-size_ok.false) c.if-h-top.false c.if-out-ne512.false) _ _ _ _ refl c.leaves.ensures c.in_ok-n.was

pub returns : goal.returns
returns c =
    root_done _ (early _ (sym c.size_ok.ensures ∙ c.if-not-size_ok.false) c.if-h-top.false c.if-out-ne512.false) _ _ _ _ refl c.leaves.ensures c.in_ok-n.was _ _ c.leaves_edges-k.ensures
