-- Places and marks are stored from the front, each by the test of its units. Assumes nothing.
use Prim.Native.Nat.{ℕ, ◌+◌, ◌-◌, ◌<◌}
use mathlib.Core.Bool.{true}
use mathlib.Core.List.{List}
use mathlib.Core.Path.{◌≡◌, sym, ◌∙◌, subst}
use native.Mathlib.Omega.{arith}
use lib.ListN.{length, set}
use Rattle.laws.proofs.Fill.{Upto, upto_more}
use Rattle.split.specs.Edges.{pass_of}
use Rattle.edge_place.specs.Places.{place_in, marks_in}
use Rattle.edge_place.specs.Plans.{Input, edges_in, has_units, told, planned_place, planned_marks, units_in}
use Rattle.edge_place.proofs.Plans.{Room, room, both_units, InUnits, in_units, place_told, marks_told, place_untold, marks_untold, plan_put}
use Rattle.edge_place.proofs.plan_edges.Goals as goal
use Rattle.edge_place.proofs.plan_edges.Goals.{then-has_units, else-has_units}

-- an edge that is planned has its numbers and room
fits : {columns m n places marks k edges : ℕ} → edges ≡ edges_in columns m n places marks → k < edges → Room columns m n places marks k
fits {columns} {m} {n} {places} {marks} {k} e h = room columns m n places marks k (subst (λ (j : ℕ). k < j) e h)

-- where the test of its units passes, Q is one of them
held : (step units q words motion refs keep : ℕ) → units ≡ units_in words motion refs keep → has_units step units q ≡ true → InUnits words motion refs keep q
held step units q words motion refs keep e h = in_units words motion refs keep q (subst (λ (m : ℕ). q < m) e (both_units step units q h).under)

pub offset_bounds-list-k : goal.offset_bounds-list-k
offset_bounds-list-k c = let f = (fits c.edges_in-edges.ensures c.loop-k-test.true).numbers in omega (arith, f)

pub bounds-list-k : goal.bounds-list-k
bounds-list-k c = let f = (fits c.edges_in-edges.ensures c.loop-k-test.true).numbers in omega (arith, f)

pub offset_bounds-list-k-in-loop-k : goal.offset_bounds-list-k-in-loop-k
offset_bounds-list-k-in-loop-k c = let f = (fits c.edges_in-edges.ensures c.loop-k-test.true).numbers in omega (arith, f)

pub bounds-list-k-in-loop-k : goal.bounds-list-k-in-loop-k
bounds-list-k-in-loop-k c = let f = (fits c.edges_in-edges.ensures c.loop-k-test.true).numbers in omega (arith, f)

pub unit_at-q-requires : goal.unit_at-q-requires
unit_at-q-requires c = (fits c.edges_in-edges.ensures c.loop-k-test.true).few

pub overflow_sub-p : goal.overflow_sub-p
overflow_sub-p c = (both_units _ _ _ (sym c.has_units.ensures ∙ c.if-has_units.true)).before

pub place_at-requires : goal.place_at-requires
place_at-requires c =
    let u = (held _ _ _ _ _ _ _ c.units_in-units.ensures (sym c.has_units.ensures ∙ c.if-has_units.true)).word in (u, omega (arith, u))

pub bounds-places-k : goal.bounds-places-k
bounds-places-k c = let f = (fits c.edges_in-edges.ensures c.loop-k-test.true).place in omega (arith, f)

pub marks_at-requires : goal.marks_at-requires
marks_at-requires c =
    let u = (held _ _ _ _ _ _ _ c.units_in-units.ensures (sym c.has_units.ensures ∙ c.if-has_units.true)).mark in (u, omega (arith, u))

pub bounds-marks-k : goal.bounds-marks-k
bounds-marks-k c = let f = (fits c.edges_in-edges.ensures c.loop-k-test.true).mark in omega (arith, f)

pub bounds-places-k-else-has_units : goal.bounds-places-k-else-has_units
bounds-places-k-else-has_units c = let f = (fits c.edges_in-edges.ensures c.loop-k-test.true).place in omega (arith, f)

pub bounds-marks-k-else-has_units : goal.bounds-marks-k-else-has_units
bounds-marks-k-else-has_units c = let f = (fits c.edges_in-edges.ensures c.loop-k-test.true).mark in omega (arith, f)

-- one stored more
stored : (f : ℕ → ℕ) {l₀ l m : List ℕ} {k v : ℕ} → k < length l₀ → v ≡ f k → m ≡ set l k v → Upto 0 f l₀ l k → Upto 0 f l₀ m (k + 1)
stored f {l₀} {l} {m} {k} {v} h e g u = subst (λ (x : List ℕ). Upto 0 f l₀ x (k + 1)) (sym g) (upto_more 0 f l₀ l k v h e u)

pub loop-k-preserved : goal.loop-k-preserved
loop-k-preserved c =
    let i : Input = record {
      pass = pass_of c.args.horizontal;
      columns = c.args.columns;
      words = c.args.words.now;
      motion = c.args.motion.now;
      refs = c.args.refs.now;
      keep = c.args.keep.now;
      rows = c.args.rows.now;
      list = c.args.list.now;
      n = c.args.n;
    } in
    let r = fits c.edges_in-edges.ensures c.loop-k-test.true in
    let q = c.unit_at-q.ensures in
    let w = c.step_across-step.ensures in
    let v = c.loop-k.invariant in
    let e : c.has_units.result ≡ told i c.loop-k.k = c.has_units.ensures ∙ (λ t. has_units (w t) (c.units_in-units.ensures t) (q t)) in (
      omega (arith, c.loop-k-test.true),
      elim c.if-has_units.branch [
        | then-has_units b ↦ stored (planned_place i) r.place
            (b.place_at.ensures ∙ (λ t. place_in i.pass i.words i.motion i.refs i.rows (q t) (q t - w t)) ∙ place_told i c.loop-k.k (sym e ∙ b.if-has_units.true))
            b.places-is v.1
        | else-has_units b ↦ stored (planned_place i) r.place (place_untold i c.loop-k.k (sym e ∙ b.if-has_units.false)) b.places-is v.1
      ],
      elim c.if-has_units.branch [
        | then-has_units b ↦ stored (planned_marks i) r.mark
            (b.marks_at.ensures ∙ (λ t. marks_in i.keep (q t) (q t - w t)) ∙ marks_told i c.loop-k.k (sym e ∙ b.if-has_units.true))
            b.marks-is v.2
        | else-has_units b ↦ stored (planned_marks i) r.mark (marks_untold i c.loop-k.k (sym e ∙ b.if-has_units.false)) b.marks-is v.2
      ],
    )

pub returns : goal.returns
returns c =
    let l = c.loop-k in
    plan_put _ _ _ _ _ l.k l.invariant.1 l.invariant.2 (sym c.edges_in-edges.ensures ∙ omega (arith, l.invariant.0, c.loop-k-test.false))
