-- `split::met_leaves` meets its contract: 1, 2, 8, and then what the walk of the root finds. Assumes nothing.
use mathlib.Core.Path.{refl, sym, ap, ◌∙◌}
use Prim.Native.Nat.{◌/◌, ◌≤◌, ◌<◌}
use native.Mathlib.Omega.{arith}
use borrow.Author.Rules.{rules}
use borrow.Author.Tests.{lt-ltb, le-ltb}
use Rattle.def.specs.Picture.{root_count}
use Rattle.def.proofs.Sizes.{Sized, sized}
use Rattle.laws.proofs.Calls.{stops, goes_on, at_refusal, past_refusal}
use Rattle.split.specs.LeavesCall as leaves-call
use Rattle.split.specs.Picture.{root_walk}
use Rattle.split.proofs.Callers.{index_back}
use Rattle.split.proofs.Outcomes.{met_refused, met_walked, lengths_told, root_fits}
use Rattle.split.proofs.Stores.{stored_as}
use Rattle.split.proofs.met_leaves.Statement.{statement}
use Rattle.split.proofs.met_leaves.Tie as tie

size_told : (c : tie.Else-not-size_ok) → Sized c.args.w c.args.h
size_told c = sized _ _ (sym c.size_ok.ensures ∙ c.if-not-size_ok.false)

returns : tie.Need-returns-then-not-size_ok
unfolding leaves-call.check_of
returns c = met_refused _ _ _ _ _ _ _ _ (stops _ _ _ _ c.size_ok.ensures c.if-not-size_ok.true-raw)

returns-2 : tie.Need-returns-then-not-leaves_lengths_ok
unfolding leaves-call.check_of
returns-2 c =
    met_refused _ _ _ _ _ _ _ _
    (goes_on _ _ _ _ _ c.size_ok.ensures c.if-not-size_ok.false-raw (stops _ _ _ _ c.leaves_lengths_ok.ensures c.if-not-leaves_lengths_ok.true-raw))

returns-3 : tie.Need-returns-then-root_count-i
unfolding leaves-call.check_of
returns-3 c =
    let a = c.args in
    let none : root_count a.w a.h ≤ a.i = omega (arith, c.if-root_count-i.true, c.root_count.ensures.0) in
    met_refused _ _ _ _ _ _ _ _
    (goes_on _ _ _ _ _ c.size_ok.ensures c.if-not-size_ok.false-raw
    (goes_on _ _ _ _ _ c.leaves_lengths_ok.ensures c.if-not-leaves_lengths_ok.false-raw (at_refusal _ _ _ (root_fits (size_told c.before.before.before.before) a.i ∙ le-ltb _ _ none))))

module _ (c : tie.Else-root_count-i) where
  -- a root has the number, where all tests passed
  in_picture : let a = c.args in a.i < root_count a.w a.h
  in_picture = omega (arith, c.if-root_count-i.false, c.root_count.ensures.0)

walk_root_requires : tie.Need-walk_root-requires
walk_root_requires c κs = (
  size_told c.before.before.before.before.before,
  (lengths_told _ _ _ _ (sym c.leaves_lengths_ok.ensures ∙ c.if-not-leaves_lengths_ok.false)).0,
  in_picture c.before,
  c.requires,
)

returns-4 : tie.Need-returns
unfolding leaves-call.check_of
returns-4 c =
    let back = index_back c.args.w c.args.i in
    met_walked _ _ _ _ _ _ _ _ _ c.requires
    (goes_on _ _ _ _ _ c.size_ok.ensures c.if-not-size_ok.false-raw
    (goes_on _ _ _ _ _ c.leaves_lengths_ok.ensures c.if-not-leaves_lengths_ok.false-raw
    (past_refusal _ _ _ _ (root_fits (size_told c.before.before.before.before.before.before.before.before) c.args.i ∙ lt-ltb _ _ (in_picture c.before.before.before.before)) refl)))
    (stored_as (ap (root_walk c.args.splits.now (c.args.w / 4) (c.args.h / 4)) back) c.walk_root.ensures)

pub met_leaves_spec : {M : Type 1} → statement M
met_leaves_spec =
    tie.close
    (tie.spec
    (λ c κs. search rules)
    returns
    (λ c κs. size_told c)
    returns-2
    (λ c κs. let z = size_told c.before.before in (z.wide, z.high))
    returns-3
    walk_root_requires
    (λ c. search rules)
    returns-4)
