-- `driver::walk::draw_picture` meets its contract: after i turns the state is that of the first i roots. Assumes nothing.
use Prim.Native.Nat.{ℕ, ◌-◌, ◌*◌, ◌/◌, ◌%◌, ◌≤◌, ◌<◌}
use mathlib.Core.Path.{◌≡◌, refl, sym, subst}
use native.Mathlib.Omega.{arith}
use borrow.Author.Rules.{rules}
use lib.ListN.{length}
use Rattle.def.specs.Picture.{root_count}
use Rattle.def.proofs.Sizes.{Sized, sized}
use Rattle.split.specs.Picture.{roots, leaves_of}
use Rattle.split.proofs.Roots.{few_roots, roots_units, root_column, root_row}
use Rattle.driver_rules.specs.Asked.{Stepped}
use Rattle.driver_rules.specs.Records.{walked_to, first}
use Rattle.driver_rules.proofs.Walked.{roots_none, roots_more, roots_reach, stepped_place}
use Rattle.driver.specs.Lends.{given_of, state_of}
use Rattle.driver.proofs.Leaves.{ended, Kept, kept}
use Rattle.driver.proofs.walk.draw_picture.Statement.{statement}
use Rattle.driver.proofs.walk.draw_picture.Tie as tie

abbrev invariant-loop : tie.invariant-loop-i
invariant-loop w h format constrained splits leaves pred_y pred_u pred_v residual y₀ u₀ v₀ words₀ modes₀ keep₀ across roots list₀ run₀ room₀ at₀ k₀ i₀ y u v words modes keep list run room at k i =
    (i ≤ roots) × (length list ≡ 256)
    × Stepped (given_of w h format constrained leaves residual pred_y pred_u pred_v) (leaves_of splits (w / 4) (h / 4) i) (state_of y₀ u₀ v₀ words₀ modes₀ keep₀ 0 0) (state_of y u v words modes keep at k)
    × (k ≤ 256 * i)

abbrev decreases-loop : tie.decreases-loop-i
decreases-loop w h format constrained splits leaves pred_y pred_u pred_v residual y₀ u₀ v₀ words₀ modes₀ keep₀ across roots list₀ run₀ room₀ at₀ k₀ i₀ y u v words modes keep list run room at k i = roots - i

-- ---- the states of a turn, from its end back: its leaves drawn, its list packed, and its start; and the call's start

abbrev drawn_at : tie.After-slice_known-in-loop-i-6-1 invariant-loop decreases-loop → tie.After-draw_leaves-at invariant-loop decreases-loop
drawn_at c = c.before.before.before.before.before.before.before.before.before.before.before.before

abbrev packed_at : tie.After-room-in-loop-i-1 invariant-loop decreases-loop → tie.After-packed_leaves-n invariant-loop decreases-loop
packed_at c = c.before.before.before.before.before.before.before.before.before.before

abbrev turn_at_lem : tie.After-packed_leaves-n invariant-loop decreases-loop → tie.In-loop-i invariant-loop decreases-loop
turn_at_lem c = c.before.before.before

abbrev turn_of : tie.After-slice_known-in-loop-i-6-1 invariant-loop decreases-loop → tie.In-loop-i invariant-loop decreases-loop
turn_of c = turn_at_lem (packed_at (drawn_at c).before)

abbrev start : tie.After-roots_along invariant-loop decreases-loop → tie.Start invariant-loop decreases-loop
start c = c.before.before.before.before.before.before.before.before.before.before.before.before.before

-- ---- the roots

size : (s : tie.Start invariant-loop decreases-loop) → Sized s.args.w s.args.h
size s = sized _ _ s.requires.0.size

-- the loop's count is that of the roots
counted : (c : tie.After-roots_along invariant-loop decreases-loop) → let a = (start c).args in c.roots_along-across.result * c.roots_along.result ≡ root_count a.w a.h
counted c = (λ k. c.roots_along-across.ensures k * c.roots_along.ensures k)

few : (c : tie.After-roots_along invariant-loop decreases-loop) → c.roots_along-across.result * c.roots_along.result ≤ 4096
few c =
    let s = start c in
    rw (counted c) (few_roots s.args.w s.args.h (size s).wide (size s).high)

some : (c : tie.After-roots_along invariant-loop decreases-loop) → 0 < c.roots_along-across.result
some c = omega (arith, c.roots_along-across.ensures, (size (start c)).some_wide)

-- where a turn's root stands
early : (c : tie.In-loop-i invariant-loop decreases-loop) → let a = (start c.before.before).args in c.loop-i.i < root_count a.w a.h
early c = rw (counted c.before.before) at c.loop-i-test.true

column : (c : tie.In-loop-i invariant-loop decreases-loop) → 64 * (c.loop-i.i % c.roots_along-across.result) < (start c.before.before).args.w
column c =
    let s = start c.before.before in
    subst (λ (n : ℕ). 64 * (c.loop-i.i % n) < s.args.w) (sym c.roots_along-across.ensures) (root_column (size s) c.loop-i.i (early c))

row : (c : tie.In-loop-i invariant-loop decreases-loop) → 64 * (c.loop-i.i / c.roots_along-across.result) < (start c.before.before).args.h
row c =
    let s = start c.before.before in
    subst (λ (n : ℕ). 64 * (c.loop-i.i / n) < s.args.h) (sym c.roots_along-across.ensures) (root_row (size s) c.loop-i.i (early c))

-- ---- a turn

loop_holds : tie.Need-loop-i-init invariant-loop decreases-loop
loop_holds c =
    let s = start c in
    (omega arith, refl, roots_none _ s.args.splits.now (s.args.w / 4) (s.args.h / 4) _ s.requires.1.0, omega arith)

packed_leaves_requires : tie.Need-packed_leaves-n-requires invariant-loop decreases-loop
packed_leaves_requires c κs =
    ((start c.before.before.before.before).requires.1.1.0, early c.before.before, c.loop-i.invariant.1)

draw_leaves_requires : tie.Need-draw_leaves-at-requires invariant-loop decreases-loop
draw_leaves_requires c κs =
    let p = packed_at c in
    let turn = turn_at_lem p in
    let l = turn.loop-i in
    let d = turn.before.before in
    let s = start d in
    let listed = rw (← c.roots_along-across.ensures) at p.packed_leaves-n.ensures.0 in
    let before_last : l.i < roots (s.args.w / 4) (s.args.h / 4) = omega (arith, early turn, roots_units (size s)) in (
      s.requires.0,
      (
        l.invariant.2.asked,
        (
          listed.blocks,
          p.packed_leaves-n.ensures.1,
          omega (arith, column turn, (size s).wide),
          omega (arith, row turn, (size s).high),
          roots_reach s.args.leaves.now _ s.args.splits.now (s.args.w / 4) (s.args.h / 4) l.i _ _ _ first (walked_to l.at l.k) before_last listed.same
              (stepped_place _ (leaves_of s.args.splits.now (s.args.w / 4) (s.args.h / 4) l.i) _ _ l.invariant.2) s.requires.1.1.1,
        ),
      ),
    )

loop_again : tie.Need-loop-i-preserved invariant-loop decreases-loop
loop_again c =
    let r = drawn_at c in
    let p = packed_at r.before in
    let turn = turn_at_lem p in
    let l = turn.loop-i in
    let d = turn.before.before in
    let s = start d in
    let listed = rw (← c.roots_along-across.ensures) at p.packed_leaves-n.ensures.0 in (
      omega (arith, turn.loop-i-test.true),
      p.packed_leaves-n.ensures.1,
      roots_more _ s.args.splits.now (s.args.w / 4) (s.args.h / 4) l.i _ _ _ _ _ listed.same l.invariant.2 r.draw_leaves-at.ensures,
      omega (arith, l.invariant.3, listed.blocks.few),
    )

add_k : tie.Need-overflow_add-k invariant-loop decreases-loop
add_k c =
    let p = packed_at (drawn_at c).before in
    let turn = turn_at_lem p in
    let l = turn.loop-i in
    omega (arith, l.invariant.3, l.invariant.0, p.packed_leaves-n.ensures.0.blocks.few, few turn.before.before)

add_i : tie.Need-overflow_step-i invariant-loop decreases-loop
add_i c = let turn = turn_of c in omega (arith, turn.loop-i-test.true, few turn.before.before)

loop_less : tie.Need-loop-i-smaller invariant-loop decreases-loop
loop_less c = omega (arith, (turn_of c).loop-i-test.true)

-- ---- at the end

lengths : (c : tie.After-loop-i invariant-loop decreases-loop) → let s = start c.before.before in
    let l = c.loop-i in Kept (state_of s.args.y.now s.args.u.now s.args.v.now s.args.words.now s.args.modes.now s.args.keep.now 0 0)
    (state_of l.y l.u l.v l.words l.modes l.keep l.at l.k)
lengths c = kept _ _ _ (start c.before.before).requires.1.0 c.loop-i.invariant.2.asked

returns : tie.Need-returns invariant-loop decreases-loop
returns c =
    let s = start c.before.before in
    let l = c.loop-i in
    let e : l.i ≡ roots (s.args.w / 4) (s.args.h / 4) = omega (arith, l.invariant.0, c.loop-i-test.false, counted c.before.before, roots_units (size s)) in
    rw (← e) (ended l.invariant.2.same)

pub draw_picture_spec : {M : Type 1} → statement M
draw_picture_spec =
    tie.close
    (tie.spec invariant-loop decreases-loop (λ c κs. search rules) (λ c κs. search rules) (λ c. omega (arith, few c)) loop_holds
    (λ c. omega (arith, some c.before.before)) (λ c. omega (arith, column c, (size (start c.before.before)).wide))
    (λ c. omega (arith, some c.before.before)) (λ c. omega (arith, row c, (size (start c.before.before)).high))
    (λ c. search rules) packed_leaves_requires (λ c. search rules) draw_leaves_requires
    add_k add_i loop_less loop_again (λ c. (lengths c).y_kept) (λ c. (lengths c).u_kept) (λ c. (lengths c).v_kept) (λ c. (lengths c).words_kept)
    (λ c. (lengths c).modes_kept) (λ c. (lengths c).keep_kept) returns)
