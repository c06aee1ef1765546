-- `df::pass::deblock_pass` meets its contract: after i turns the edges of the first i roots are filtered. Assumes nothing.
use Prim.Native.Nat.{ℕ, ◌+◌, ◌-◌, ◌*◌, ◌/◌, ◌≤◌, ◌<◌}
use mathlib.Core.Path.{◌≡◌, refl, sym, ◌∙◌, subst}
use native.Mathlib.Omega.{arith}
use borrow.Author.Rules.{rules}
use mir.Syntax.{w64}
use mir.Val.{Fits}
use lib.ListN.{length}
use Rattle.def.proofs.Sizes.{Sized, sized}
use Rattle.split.proofs.Roots.{roots_units}
use Rattle.df_rules.specs.Strength.{Maps}
use Rattle.df_rules.proofs.LentPlanes.{LentPlanes}
use Rattle.edge_filter.specs.Edges.{pass_of}
use Rattle.df.specs.Plan.{Planned}
use Rattle.df.proofs.Filtered.{luma_by_plan, u_by_plan, v_by_plan}
use Rattle.df.proofs.Plans.{edge_known, Knowns, plan_known}
use Rattle.df.proofs.Turns.{Roots, roots_none, roots_more, roots_frame, roots_all, luma_plane, u_plane, v_plane}
use Rattle.df.proofs.pass.deblock_pass.Statement.{statement}
use Rattle.df.proofs.pass.deblock_pass.Tie as tie

abbrev invariant-loop : tie.invariant-loop-i
invariant-loop pass shape y₀ u₀ v₀ words splits motion refs keep rows entries columns horizontal roots list₀ places₀ marks₀ count₀ i₀ y u v list places marks count i =
    (i ≤ roots) × (length y ≡ length y₀) × (length u ≡ length u₀) × (length v ≡ length v₀) × (length list ≡ 512) × (length places ≡ 256) × (length marks ≡ 256)
    × Roots (record { words = words; over = record { motion = motion; refs = refs; keep = keep } }) entries (pass_of pass) shape.halved shape.top splits (shape.w / 4) (shape.h / 4) i
    (record { y = y₀; u = u₀; v = v₀ }) (record { y = y; u = u; v = v }) count

abbrev decreases-loop : tie.decreases-loop-i
decreases-loop pass shape y₀ u₀ v₀ words splits motion refs keep rows entries columns horizontal roots list₀ places₀ marks₀ count₀ i₀ y u v list places marks count i = roots - i

-- what decides
abbrev maps : tie.Start invariant-loop decreases-loop → Maps
maps s = record { words = s.args.words.now; over = record { motion = s.args.motion.now; refs = s.args.refs.now; keep = s.args.keep.now } }

size : (s : tie.Start invariant-loop decreases-loop) → Sized s.args.shape.w s.args.shape.h
size s = sized _ _ s.requires.1.size

-- numbers of a turn, away from the states: there are few roots, and a root has few edges
next_fits : {i n : ℕ} → n ≤ 4096 → i < n → Fits w64 (i + 1)
next_fits f l = omega arith

count_fits : {count i n k : ℕ} → n ≤ 4096 → i ≤ n → count ≤ 256 * i → k ≤ 256 → Fits w64 (count + k)
count_fits f l g e = omega arith

one_more : {i n : ℕ} → i < n → i + 1 ≤ n
one_more l = omega arith

one_less : {i n : ℕ} → i < n → n - (i + 1) < n - i
one_less l = omega arith

pairs_fit : {n k : ℕ} → n ≤ 256 → k ≡ 512 → 2 * n ≤ k
pairs_fit l e = omega arith

all_fit : {n k : ℕ} → n ≤ 256 → k ≡ 256 → n ≤ k
all_fit l e = omega arith

root_count_requires : tie.Need-root_count-roots-requires invariant-loop decreases-loop
root_count_requires c κs = let z = size c.before.before.before.before.before.before.before.before.before in (z.wide, z.high)

loop_holds : tie.Need-loop-i-init invariant-loop decreases-loop
loop_holds c =
    (omega arith, refl, refl, refl, refl, refl, refl, roots_none _ _ (pass_of c.args.pass) _ _ _ _ _ _)

root_edges_requires : tie.Need-root_edges-n-requires invariant-loop decreases-loop
root_edges_requires c κs = (
  c.requires.1,
  subst (λ (n : ℕ). c.loop-i.i < n) c.root_count-roots.ensures.0 c.loop-i-test.true,
  c.loop-i.invariant.4,
  c.requires.0.high,
)

-- the units of a root's edges lie in the maps
knowns : (c : tie.After-plan_edges invariant-loop decreases-loop) → let a = c.args in
    let l = c.loop-i in
    Knowns (pass_of a.pass) (a.shape.w / 4) a.words.now (record { motion = a.motion.now; refs = a.refs.now; keep = a.keep.now }) a.rows.now
    c.root_edges-n.new.out c.root_edges-n.result l.places l.marks
knowns c =
    let r = c.root_edges-n.ensures in
    let l = c.loop-i in
    record {
      wide = c.requires.0.wide;
      long = pairs_fit r.few r.long;
      fits = all_fit r.few l.invariant.5;
      fits_marks = all_fit r.few l.invariant.6;
      right = c.requires.2;
      edges = λ k g. edge_known (pass_of c.args.pass) _ _ c.requires.0 (r.units k g);
    }

-- so its plan is the one by the maps
plan_of : (c : tie.After-plan_edges invariant-loop decreases-loop) → Planned (maps c.before.before.before.before.before.before.before.before.before.before.before.before.before.before.before.before.before.before.before) (pass_of c.args.pass) (c.args.shape.w / 4) c.root_edges-n.new.out c.root_edges-n.result
    c.plan_edges.new.places c.plan_edges.new.marks
plan_of c = plan_known _ _ _ _ _ (knowns c) c.is_horizontal-horizontal.ensures c.plan_edges.ensures

-- the picture, at a turn
current : (c : tie.At-loop-i invariant-loop decreases-loop) → let a = c.args in
    LentPlanes a.shape.format (a.shape.w / 4) (a.shape.top + a.shape.h / 4) (record { motion = a.motion.now; refs = a.refs.now; keep = a.keep.now }) a.entries.now
    (record { y = c.loop-i.y; u = c.loop-i.u; v = c.loop-i.v }) a.words.now
current c = roots_frame (maps c.before.before.before.before.before.before.before.before.before.before.before) _ (pass_of c.args.pass) _ _ _ _ _ c.loop-i.i _ _ _ c.loop-i.invariant.7 c.requires.0

-- a root's plan has the room that it had before the turn
places_long : (c : tie.After-plan_edges invariant-loop decreases-loop) → length c.plan_edges.new.places ≡ 256
places_long c = c.plan_edges.auto.places ∙ c.loop-i.invariant.5

marks_long : (c : tie.After-plan_edges invariant-loop decreases-loop) → length c.plan_edges.new.marks ≡ 256
marks_long c = c.plan_edges.auto.marks ∙ c.loop-i.invariant.6

add_count : tie.Need-overflow_add-count invariant-loop decreases-loop
add_count c =
    let l = c.loop-i in
    count_fits c.root_count-roots.ensures.1 l.invariant.0 l.invariant.7.few c.root_edges-n.ensures.few

add_i : tie.Need-overflow_step-i invariant-loop decreases-loop
add_i c =
    next_fits c.root_count-roots.ensures.1 c.loop-i-test.true

loop_less : tie.Need-loop-i-smaller invariant-loop decreases-loop
loop_less c =
    one_less c.loop-i-test.true

loop_again : tie.Need-loop-i-preserved invariant-loop decreases-loop
loop_again c =
    let l = c.loop-i in
    let ky = c.filter_luma.auto in
    let k = c.filter_chroma.auto in
    let r = c.root_edges-n.ensures in
    let p = plan_of c.before.before.before.before.before.before.before.before.before.before.before.before.before.before.before.before.before.before.before in
    let f = c.filter_chroma.ensures in
    let d = pass_of c.args.pass in
    let high = c.args.shape.top + c.args.shape.h / 4 in
    let now = current c.before.before.before.before.before.before.before.before.before.before.before.before.before.before.before.before.before.before.before.before.before.before.before.before.before.before.before in
    let alike = (u_plane now).long ∙ sym (v_plane now).long in (
      one_more c.loop-i-test.true,
      ky.y ∙ l.invariant.1,
      k.u ∙ l.invariant.2,
      k.v ∙ l.invariant.3,
      r.long,
      places_long c.before.before.before.before.before.before.before.before.before.before.before.before.before.before.before.before.before.before.before,
      marks_long c.before.before.before.before.before.before.before.before.before.before.before.before.before.before.before.before.before.before.before,
      roots_more _ _ (pass_of c.args.pass) _ _ _ _ _ l.i _ _ _ _ _ _ _ _ _ _ r.few r.same c.requires.0.marks p l.invariant.7
          (luma_by_plan _ c.requires.0.long_entries d _ high _ _ _ _ r.few r.units _ _ (luma_plane now) c.filter_luma.ensures)
          (u_by_plan _ c.requires.0.long_entries d _ high _ _ _ _ r.few r.units _ _ _ _ _ alike (u_plane now) f.0)
          (v_by_plan _ c.requires.0.long_entries d _ high _ _ _ _ r.few r.units _ _ _ _ _ alike (v_plane now) f.1),
    )

returns : tie.Need-returns invariant-loop decreases-loop
returns c =
    let l = c.loop-i in
    roots_all _ _ (pass_of c.args.pass) _ _ _ _ _ l.i _ _ _ (omega (arith, l.invariant.0, c.loop-i-test.false, roots_units (size c.before.before.before.before.before.before.before.before.before.before.before.before), c.root_count-roots.ensures.0)) l.invariant.7

pub deblock_pass_spec : {M : Type 1} → statement M
deblock_pass_spec =
    tie.close
    (tie.spec invariant-loop decreases-loop (λ c κs. search rules) root_count_requires loop_holds
    (λ c. sym c.loop-i.invariant.4)
    root_edges_requires
    (λ c. sym c.root_edges-n.ensures.long)
    (λ c. sym c.loop-i.invariant.5)
    (λ c. sym c.loop-i.invariant.6)
    (λ c κs. search rules) (λ c κs. tt) (λ c κs. tt) add_count add_i loop_less loop_again (λ c. c.loop-i.invariant.1) (λ c. c.loop-i.invariant.2) (λ c. c.loop-i.invariant.3) returns)
