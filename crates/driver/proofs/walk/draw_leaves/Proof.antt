-- `driver::walk::draw_leaves` meets its contract: after j turns the state is that of the first j leaves. Assumes nothing.
use Prim.Native.Nat.{ℕ, ◌+◌, ◌-◌, ◌*◌, ◌≤◌, ◌<◌}
use mathlib.Core.Path.{◌≡◌}
use mathlib.Core.List.{List}
use native.Mathlib.Omega.{arith}
use lib.ListN.{length, get_or}
use Rattle.split.specs.Stored.{leaves_from}
use Rattle.driver_rules.specs.Asked.{Reaches, Stepped}
use Rattle.driver_rules.specs.Records.{walked_to, past}
use Rattle.driver_rules.proofs.Walked.{sides, leaves_reach}
use Rattle.driver.specs.Lends.{given_of, state_of}
use Rattle.driver.specs.Packed.{unpacked_at}
use Rattle.driver.proofs.Leaves.{IsBlock, planes_asked, told, leaves_start, leaves_next, leaves_asked, Kept, kept}
use Rattle.driver.proofs.walk.draw_leaves.Statement.{statement}
use Rattle.driver.proofs.walk.draw_leaves.Tie as tie

abbrev invariant-loop : tie.invariant-loop-j
invariant-loop w h format constrained list root n leaves k pred_y pred_u pred_v residual at y₀ u₀ v₀ words₀ modes₀ keep₀ run₀ room₀ end₀ j₀ y u v words modes keep run room end j =
    (j ≤ n) × Stepped (given_of w h format constrained leaves residual pred_y pred_u pred_v) (leaves_from (unpacked_at root list) j)
    (state_of y₀ u₀ v₀ words₀ modes₀ keep₀ at k) (state_of y u v words modes keep end (k + j))

abbrev decreases-loop : tie.decreases-loop-j
decreases-loop w h format constrained list root n leaves k pred_y pred_u pred_v residual at y₀ u₀ v₀ words₀ modes₀ keep₀ run₀ room₀ end₀ j₀ y u v words modes keep run room end j = n - j

-- the root's list
abbrev list : tie.Start invariant-loop decreases-loop → List ℕ
list s = unpacked_at s.args.root s.args.list.now

-- ---- the states of a turn, from its end back: its units told, its planes drawn, its record read, and its start; and the call's start

abbrev told_at : tie.After-slice_known-in-loop-j-6-1 invariant-loop decreases-loop → tie.After-tell invariant-loop decreases-loop
told_at c = c.before.before.before.before.before.before

abbrev drawn_at : tie.After-tell-arg-in-loop-j-2-1 invariant-loop decreases-loop → tie.After-leaf_planes-end invariant-loop decreases-loop
drawn_at c = c.before.before.before.before.before.before.before.before.before

abbrev read_at : tie.After-leaf_planes-arg-in-loop-j-4-1 invariant-loop decreases-loop → tie.After-record_at-record invariant-loop decreases-loop
read_at c = c.before.before.before.before.before

abbrev turn_of : tie.After-slice_known-in-loop-j-6-1 invariant-loop decreases-loop → tie.In-loop-j invariant-loop decreases-loop
turn_of c = (read_at (drawn_at (told_at c).before).before).before.before

abbrev start : tie.At-loop-j invariant-loop decreases-loop → tie.Start invariant-loop decreases-loop
start c = c.before.before.before.before.before.before.before.before.before.before.before.before

-- ---- a turn

loop_holds : tie.Need-loop-j-init invariant-loop decreases-loop
loop_holds c = (omega arith, leaves_start (list c.before.before.before.before.before.before.before.before.before.before.before) c.args.k c.requires.1.0)

-- where leaf j stands among those of the root
in_list : (c : tie.In-loop-j invariant-loop decreases-loop) → let a = (start c.before).args in
    (c.loop-j.j < 256) × (length a.list.now ≡ 256) × (a.root.x.0 ≤ 4096) × (a.root.y.0 ≤ 4096)
in_list c =
    let b = (start c.before).requires.1.1 in
    (omega (arith, b.0.few, c.loop-j-test.true), b.1, b.2, b.3)

-- the lists reach past it
reached : (c : tie.In-loop-j invariant-loop decreases-loop) → let s = start c.before in let l = c.loop-j in Reaches s.args.leaves.now (length s.args.residual.now)
    (past s.args.leaves.now (get_or (list s) (3 * l.j + 2) 0) (walked_to l.end (s.args.k + l.j)))
reached c =
    let s = start c.before in
    let l = c.loop-j in
    let from = walked_to s.args.at s.args.k in
    leaves_reach s.args.leaves.now (length s.args.residual.now) (list s) l.j s.args.n from (walked_to l.end (s.args.k + l.j)) c.loop-j-test.true
    ((sides s.requires.1.1.0).units _ c.loop-j-test.true) (leaves_asked (list s) s.args.k l.j l.invariant.1) s.requires.1.1.4

-- it is a block of the picture
block : (c : tie.After-leaf_at-leaf invariant-loop decreases-loop) → let a = (start c.before.before).args in IsBlock a.w a.h c.leaf_at-leaf.result
block c =
    let s = start c.before.before in
    let e = c.leaf_at-leaf.ensures in
    rw (e.0, e.1, e.2) (s.requires.1.1.0.blocks _ c.loop-j-test.true)

leaf_planes_requires : tie.Need-leaf_planes-end-requires invariant-loop decreases-loop
leaf_planes_requires c κs =
    let place = c.leaf_at-leaf.ensures in
    let mask = c.record_at-record.ensures.2 in (
      planes_asked _ _ c.requires.0 c.loop-j.invariant.1.asked (block c.before.before.before.before.before.before) (rw mask (c.requires.0.masks _)),
      rw (mask, place.2) (reached c.before.before.before.before.before.before.before).residuals,
    )

tell_requires : tie.Need-tell-requires invariant-loop decreases-loop
tell_requires c κs =
    let r = read_at (drawn_at c).before in
    let turn = r.before.before in
    let a = c.loop-j.invariant.1.asked in
    told _ _ _ _ _ _ (start turn.before).requires.0.size (block r.before) a.words_long a.modes_long a.keep_long

loop_again : tie.Need-loop-j-preserved invariant-loop decreases-loop
loop_again c =
    let t = told_at c in
    let d = drawn_at t.before in
    let r = read_at d.before in
    let turn = r.before.before in
    let s = start turn.before in
    let l = c.loop-j in (
      omega (arith, c.loop-j-test.true),
      leaves_next (given_of s.args.w s.args.h s.args.format s.args.constrained s.args.leaves.now s.args.residual.now s.args.pred_y.now
          s.args.pred_u.now s.args.pred_v.now) (list s) s.args.k l.j s.requires.0
          (block r.before) c.leaf_at-leaf.ensures c.record_at-record.ensures c.leaf_planes-end.ensures c.tell.ensures l.invariant.1,
    )

add_j : tie.Need-overflow_step-j invariant-loop decreases-loop
add_j c = let turn = turn_of c in omega (arith, turn.loop-j-test.true, (start turn.before).requires.1.1.0.few)

loop_less : tie.Need-loop-j-smaller invariant-loop decreases-loop
loop_less c = omega (arith, (turn_of c).loop-j-test.true)

add_record_at : tie.Need-overflow_add-k invariant-loop decreases-loop
add_record_at c = omega (arith, (reached c.before).records, c.ranges.k)

-- ---- at the end

lengths : (c : tie.After-loop-j invariant-loop decreases-loop) → let s = start c.before in
    let l = c.loop-j in Kept (state_of s.args.y.now s.args.u.now s.args.v.now s.args.words.now s.args.modes.now s.args.keep.now s.args.at
    s.args.k) (state_of l.y l.u l.v l.words l.modes l.keep l.end (s.args.k + l.j))
lengths c = kept _ _ _ (start c.before).requires.1.0 c.loop-j.invariant.1.asked

returns : tie.Need-returns invariant-loop decreases-loop
returns c =
    let l = c.loop-j in
    let e : l.j ≡ (start c.before).args.n = omega (arith, l.invariant.0, c.loop-j-test.false) in
    rw (← e) l.invariant.1

pub draw_leaves_spec : {M : Type 1} → statement M
draw_leaves_spec =
    tie.close
    (tie.spec invariant-loop decreases-loop loop_holds (λ c κs. in_list c) add_record_at (λ c κs. (reached c.before).records) leaf_planes_requires tell_requires
    add_j loop_less loop_again (λ c. (lengths c).y_kept) (λ c. (lengths c).u_kept) (λ c. (lengths c).v_kept) (λ c. (lengths c).words_kept)
    (λ c. (lengths c).modes_kept) (λ c. (lengths c).keep_kept) returns)
