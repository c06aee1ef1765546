-- Plans: what the tests of `plan_edges` tell, and what it answers by them.
--     in_units, units_in    a number under the maps' lengths is a unit of each
--     room, all_planned    an edge that is planned has its numbers and room; all n are, where there is room for them
--     both_units    the test of an edge's units
--     place_told, marks_told, place_untold, marks_untold    the answer, by what the test found
--     plan_put    a loop that has stored the plan's first edges
--     place_in_plan, marks_in_plan    and what is read from it
-- Assumes nothing.
use Prim.Native.Nat.{ℕ, ◌+◌, ◌-◌, ◌*◌, ◌/◌, ◌≤◌, ◌<◌}
use mathlib.Core.Bool.{true, false}
use mathlib.Core.List.{List}
use mathlib.Core.Path.{◌≡◌, ap, ◌∙◌}
use native.Mathlib.Decide.{dec_lt}
use native.Mathlib.Omega.{arith}
use borrow.Author.Tests.{lt-ltb, le-leb, lt-leb, leb-true, ltb-true}
use lib.Dec.{leb, ltb}
use lib.ListN.{length, get_or}
use Rattle.laws.proofs.Bools.{both_left, both_right}
use Rattle.laws.proofs.Fill.{Upto}
use Rattle.laws.proofs.Planes.{get_d_row, within_yes}
use Rattle.df_rules.specs.Places.{unit_q, unit_p}
use Rattle.row.proofs.Runs.{first_all}
use Rattle.edge_place.specs.Places.{place_in, marks_in}
use Rattle.edge_place.specs.Plans.{Input, Lists, lists_of, units_in, edges_in, edge_from, has_units, told, planned_place, planned_marks, planned}

-- ---- units

pub record InUnits (words motion refs keep q : ℕ) : Type 0 where
  pub word : q < words
  pub mv : q < motion / 4
  pub refi : q < refs / 2
  pub mark : q < keep

pub in_units : (words motion refs keep q : ℕ) → q < units_in words motion refs keep → InUnits words motion refs keep q
unfolding units_in
in_units words motion refs keep q h = record { word = omega (arith, h); mv = omega (arith, h); refi = omega (arith, h); mark = omega (arith, h) }

pub units_in_lem : (words motion refs keep q : ℕ) → InUnits words motion refs keep q → q < units_in words motion refs keep
unfolding units_in
units_in_lem words motion refs keep q u = omega (arith, u.word, u.mv, u.refi, u.mark)

pub record Both (step units q : ℕ) : Type 0 where
  pub before : step ≤ q
  pub under : q < units

pub both_units : (step units q : ℕ) → has_units step units q ≡ true → Both step units q
unfolding has_units
both_units step units q e = record { before = leb-true step q (both_left (leb step q) (ltb q units) e); under = ltb-true q units (both_right (leb step q) (ltb q units) e) }

pub has_both : (step units q : ℕ) → Both step units q → has_units step units q ≡ true
unfolding has_units
has_both step units q b = rw (le-leb step q b.before, lt-ltb q units b.under)

-- ---- edges

pub record Room (columns list n places marks k : ℕ) : Type 0 where
  pub few : columns ≤ 65535
  pub first : k < n
  pub numbers : 2 * k + 1 < list
  pub place : k < places
  pub mark : k < marks

pub room : (columns list n places marks k : ℕ) → k < edges_in columns list n places marks → Room columns list n places marks k
unfolding edges_in
room columns list n places marks k h = go (dec_lt 65535 columns) where
  go : Dec (65535 < columns) → Room columns list n places marks k
  go (yes g) = absurd (let z = rw (lt-leb columns 65535 g) at h in omega (arith, z))
  go (no g) =
      let z = rw (le-leb columns 65535 (omega arith)) at h in
      record { few = omega arith; first = omega (arith, z); numbers = omega (arith, z); place = omega (arith, z); mark = omega (arith, z) }

pub all_planned : (columns list n places marks : ℕ) → columns ≤ 65535 → 2 * n ≤ list → n ≤ places → n ≤ marks → n ≤ edges_in columns list n places marks
unfolding edges_in
all_planned columns list n places marks a b c d =
    rw (le-leb columns 65535 a) (omega (arith, b, c, d))

-- ---- an edge's answer

module _ (i : Input) (k : ℕ) where
  pub place_told : told i k ≡ true
      → place_in i.pass i.words i.motion i.refs i.rows (unit_q i.columns (edge_from i.list k)) (unit_p i.pass i.columns (edge_from i.list k)) ≡ planned_place i k
  unfolding planned_place
  place_told e = rw e

  pub marks_told : told i k ≡ true → marks_in i.keep (unit_q i.columns (edge_from i.list k)) (unit_p i.pass i.columns (edge_from i.list k)) ≡ planned_marks i k
  unfolding planned_marks
  marks_told e = rw e

  pub place_untold : told i k ≡ false → 0 ≡ planned_place i k
  unfolding planned_place
  place_untold e = rw e

  pub marks_untold : told i k ≡ false → 0 ≡ planned_marks i k
  unfolding planned_marks
  marks_untold e = rw e

-- ---- the plan

module _ (i : Input) (places₀ marks₀ places marks : List ℕ) where
  abbrev many : ℕ
  many = edges_in i.columns (length i.list) i.n (length places₀) (length marks₀)

  pub plan_put : (j : ℕ) → Upto 0 (planned_place i) places₀ places j → Upto 0 (planned_marks i) marks₀ marks j → many ≡ j → lists_of places marks ≡ planned i (lists_of places₀ marks₀)
  unfolding planned
  plan_put j u v e = λ t. lists_of (first_all (planned_place i) many j places₀ places u e t) (first_all (planned_marks i) many j marks₀ marks v e t)

  module _ (e : lists_of places marks ≡ planned i (lists_of places₀ marks₀)) (k : ℕ) (h : k < many) where
    fits : Room i.columns (length i.list) i.n (length places₀) (length marks₀) k
    fits = room i.columns (length i.list) i.n (length places₀) (length marks₀) k h

    pub place_in_plan : get_or places k 0 ≡ planned_place i k
    unfolding planned
    place_in_plan =
        let d : k - 0 ≡ k = omega arith in
        ap (λ (p : Lists). get_or p.places k 0) e ∙ get_d_row 0 0 many (planned_place i) places₀ k fits.place ∙ rw (within_yes 0 many k (omega arith) (omega arith), d)

    pub marks_in_plan : get_or marks k 0 ≡ planned_marks i k
    unfolding planned
    marks_in_plan =
        let d : k - 0 ≡ k = omega arith in
        ap (λ (p : Lists). get_or p.marks k 0) e ∙ get_d_row 0 0 many (planned_marks i) marks₀ k fits.mark ∙ rw (within_yes 0 many k (omega arith) (omega arith), d)
