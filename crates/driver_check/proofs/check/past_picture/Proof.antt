-- `driver_check::check::past_picture` meets its contract: a turn goes past one root more. Assumes nothing.
use Prim.Native.Nat.{◌-◌, ◌*◌, ◌/◌, ◌≤◌, ◌<◌}
use mathlib.Core.Path.{◌≡◌, refl}
use native.Mathlib.Omega.{arith}
use borrow.Author.Rules.{rules}
use lib.ListN.{length}
use Rattle.def.specs.Picture.{root_count}
use Rattle.def.proofs.Sizes.{Sized, sized}
use Rattle.split.specs.Picture.{roots, leaves_of}
use Rattle.split.proofs.Callers.{root_met, root_told}
use Rattle.split.proofs.Roots.{few_roots, roots_units}
use Rattle.driver_rules.specs.Records.{walked_to, first, passed}
use Rattle.driver_rules.proofs.Lists.{listed}
use Rattle.driver_rules.proofs.Walked.{sides, passed_no_root, past_listed}
use Rattle.driver_check.proofs.check.past_picture.Statement.{statement}
use Rattle.driver_check.proofs.check.past_picture.Tie as tie

abbrev invariant-loop : tie.invariant-loop-i
invariant-loop w h splits leaves roots list₀ place₀ i₀ list place i =
    (i ≤ roots) × (length list ≡ 768) × (walked_to place.at place.k ≡ passed leaves (leaves_of splits (w / 4) (h / 4) i) first) × (place.k ≤ 256 * i) × (place.at ≤ 12288 * place.k)

abbrev decreases-loop : tie.decreases-loop-i
decreases-loop w h splits leaves roots list₀ place₀ i₀ list place i = roots - i

abbrev start : tie.After-roots_along-2 invariant-loop decreases-loop → tie.Start invariant-loop decreases-loop
start c = c.before.before.before.before

size : (s : tie.Start invariant-loop decreases-loop) → Sized s.args.w s.args.h
size s = sized _ _ s.requires.size

-- the loop's count is that of the roots
counted : (c : tie.After-roots_along-2 invariant-loop decreases-loop) → let a = (start c).args in c.roots_along.result * c.roots_along-2.result ≡ root_count a.w a.h
counted c = (λ k. c.roots_along.ensures k * c.roots_along-2.ensures k)

few : (c : tie.After-roots_along-2 invariant-loop decreases-loop) → c.roots_along.result * c.roots_along-2.result ≤ 4096
few c =
    let s = start c in
    rw (counted c) (few_roots s.args.w s.args.h (size s).wide (size s).high)

loop_holds : tie.Need-loop-i-init invariant-loop decreases-loop
loop_holds c = let s = start c in (omega arith, refl, passed_no_root s.args.leaves.now s.args.splits.now (s.args.w / 4) (s.args.h / 4) first, omega arith, omega arith)

-- ---- a turn: where its root's leaves are counted, and its start

abbrev turn_at_lem : tie.In-Ok invariant-loop decreases-loop → tie.In-loop-i invariant-loop decreases-loop
turn_at_lem c = c.before.before.before.before

early : (c : tie.In-loop-i invariant-loop decreases-loop) → let a = (start c.before.before).args in c.loop-i.i < root_count a.w a.h
early c = rw (counted c.before.before) at c.loop-i-test.true

past_leaves_requires : tie.Need-past_leaves-place-requires invariant-loop decreases-loop
past_leaves_requires c κs =
    let turn = turn_at_lem c.before in
    let a = (start turn.before.before).requires in
    let l = turn.loop-i in
    let r = listed (root_told _ _ _ a.size a.long a.walked l.i (early turn) _ _ _ l.invariant.1 c.root_leaves.ensures _ c.in-Ok.is) in
    (sides r.blocks, omega (arith, l.invariant.3, few turn.before.before, turn.loop-i-test.true), l.invariant.4)

loop_again : tie.Need-loop-i-preserved invariant-loop decreases-loop
loop_again c =
    let turn = turn_at_lem c.before.before in
    let s = start turn.before.before in
    let l = turn.loop-i in
    let a = s.requires in
    let r = listed (root_told _ _ _ a.size a.long a.walked l.i (early turn) _ _ _ l.invariant.1 c.root_leaves.ensures _ c.in-Ok.is) in
    let p = c.past_leaves-place.ensures in (
      omega (arith, turn.loop-i-test.true),
      r.blocks.long,
      past_listed s.args.leaves.now first (walked_to l.place.at l.place.k) (walked_to c.past_leaves-place.result.at c.past_leaves-place.result.k) r l.invariant.2 p.0,
      omega (arith, p.1, r.blocks.few, l.invariant.3),
      p.2,
    )

add_i : tie.Need-overflow_step-i invariant-loop decreases-loop
add_i c = let turn = turn_at_lem c.before.before in omega (arith, few turn.before.before, turn.loop-i-test.true)

loop_less : tie.Need-loop-i-smaller invariant-loop decreases-loop
loop_less c = omega (arith, (turn_at_lem c.before.before).loop-i-test.true)

-- the walk was accepted, so no root is refused
returns : tie.Need-returns-in_default invariant-loop decreases-loop
returns c =
    let a = (start c.before.before.before.before.before.before).requires in
    let l = c.loop-i in
    absurd (root_met _ _ _ a.size a.long a.walked l.i (early c.before.before.before.before) _ _ _ l.invariant.1 c.root_leaves.ensures _ c.in_default.is)

-- ---- at the end

returns-2 : tie.Need-returns invariant-loop decreases-loop
returns-2 c =
    let s = start c.before.before in
    let l = c.loop-i in
    let e : l.i ≡ roots (s.args.w / 4) (s.args.h / 4) = omega (arith, l.invariant.0, c.loop-i-test.false, counted c.before.before, roots_units (size s)) in
    (rw (← e) l.invariant.2, omega (arith, l.invariant.0, l.invariant.3, few c.before.before))

pub past_picture_spec : {M : Type 1} → statement M
past_picture_spec =
    tie.close
    (tie.spec invariant-loop decreases-loop (λ c κs. search rules) (λ c κs. search rules) (λ c. omega (arith, few c)) loop_holds (λ c. search rules) (λ c κs. search rules)
    (λ c. search rules) (λ c. search rules) returns (λ c. search rules) past_leaves_requires add_i loop_less loop_again returns-2)
