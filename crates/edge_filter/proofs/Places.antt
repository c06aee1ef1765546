-- Where the lines of two edges lie, the second's right after the first's.
--     lines_apart    those that `window` takes of two edges lie in the plane, each edge's, and share no place
--     next_place    the place of an edge that follows
-- Assumes nothing.
use Prim.Native.Nat.{ℕ, ◌+◌, ◌-◌, ◌*◌, ◌≤◌, ◌<◌}
use mathlib.Core.Bool.{Bool, true, false, ◌&&◌, ◌||◌}
use mathlib.Core.List.{List}
use mathlib.Core.Path.{◌≡◌, refl, sym, ap, ◌∙◌, subst}
use native.Mathlib.Nat.{add-mul, mul-one, mul-le-mul_right}
use native.Mathlib.Omega.{arith}
use borrow.Author.Tests.{lt-ltb, eq-eqb, le-leb, leb-true}
use lib.Dec.{leb}
use Rattle.laws.proofs.Bools.{both_left, both_right, or_true}
use Rattle.def.specs.Components.{unit_side}
use Rattle.def.specs.declared.Component.{Component}
use Rattle.def.specs.declared.Component.TheVariants.{Luma, Chroma}
use Rattle.split.specs.Edges.{Pass}
use Rattle.df_rules.specs.Lanes.{Apart}
use Rattle.df_rules.specs.Places.{step_across, step_along}
use Rattle.df_rules.proofs.Lanes.{apart_ver, apart_hor}
use Rattle.window.specs.declared.Place.{Place}
use Rattle.window.specs.Window.{last_of, by_rows, by_halves, lies, lies_apart}
use Rattle.window.proofs.Places.{rows_at, halves_at}
use Rattle.edge_filter.specs.Edges.{lines_place, cross_in, along_in, in_component, place_from}
use Rattle.edge_filter.specs.Turns.{Follows, Two}

-- ---- lines that lie as `window` takes them

beside_lie : (p : Place) (n long : ℕ) → last_of p n < long → p.next ≡ 1 → n ≤ p.step → lies p n long ≡ true
unfolding lies by_rows
beside_lie p n long l e h = rw (lt-ltb (last_of p n) long l, eq-eqb p.next 1 e, le-leb n p.step h) refl

below_lie : (p : Place) (n long : ℕ) → last_of p n < long → p.step ≡ 1 → lies p n long ≡ true
unfolding lies by_halves
below_lie p n long l e = rw (lt-ltb (last_of p n) long l, eq-eqb p.step 1 e) (or_true (by_rows p n long))

-- ---- those of two edges, m of each

module _ (p : Place) (m long : ℕ) (some : 1 ≤ m) where
  abbrev second : Place
  second = record { at = p.at + m * p.next; step = p.step; next = p.next }

  first_in : last_of p (m + m) < long → last_of p m < long
  first_in l = let k : (m - 1) * p.next ≤ (m + m - 1) * p.next = mul-le-mul_right p.next (omega arith) in omega arith

  second_in : last_of p (m + m) < long → last_of second m < long
  second_in l =
      let e : m + m - 1 ≡ m + (m - 1) = omega arith in
      let k : (m + m - 1) * p.next ≡ m * p.next + (m - 1) * p.next = ap (λ (n : ℕ). n * p.next) e ∙ add-mul m (m - 1) p.next in
      omega arith

  beside : by_rows p (m + m) long ≡ true → Two p m long
  beside t =
      let b = rows_at p (m + m) long (omega arith) t in
      let e : (m + m - 1) * p.next ≡ m + m - 1 = ap (λ (k : ℕ). (m + m - 1) * k) b.beside ∙ mul-one (m + m - 1) in
      let l : last_of p (m + m) < long = omega (arith, b.within) in
      record {
        apart = subst (λ (k : ℕ). Apart p.step k (m + m)) (sym b.beside) (apart_hor p.step (m + m) b.room);
        first = beside_lie p m long (first_in l) b.beside (omega (arith, b.room));
        second = beside_lie second m long (second_in l) b.beside (omega (arith, b.room));
      }

  below : (by_halves p (m + m) long && leb 4 p.next) ≡ true → Two p m long
  below t =
      let b = halves_at p (m + m) long (both_left _ _ t) in
      let l : last_of p (m + m) < long = omega (arith, b.within, b.below) in
      record {
        apart = subst (λ (k : ℕ). Apart k p.next (m + m)) (sym b.below) (apart_ver p.next (m + m) (leb-true 4 p.next (both_right (by_halves p (m + m) long) _ t)));
        first = below_lie p m long (first_in l) b.below;
        second = below_lie second m long (second_in l) b.below;
      }

  either : (a b : Bool) → (a ≡ true → Two p m long) → (b ≡ true → Two p m long) → (a || b) ≡ true → Two p m long
  either true b f g e = f e
  either false b f g e = g e

  pub lines_apart : lies_apart p (m + m) long ≡ true → Two p m long
  unfolding lies_apart
  lines_apart t = either (by_rows p (m + m) long) (by_halves p (m + m) long && leb 4 p.next) beside below t

-- ---- the edge that follows

-- four luma samples further on are a unit's side
side_on : (c : Component) (k : ℕ) → in_component c (k + 4) ≡ in_component c k + unit_side c
side_on Luma k = refl
side_on Chroma k = omega arith

pub next_place : (c : Component) (d : Pass) (w : ℕ) (l marks : List ℕ) (i j : ℕ) → Follows d l marks i j
    → let p = place_from c d w l i in place_from c d w l j ≡ record { at = p.at + unit_side c * p.next; step = p.step; next = p.next }
next_place c d w l marks i j g =
    let wide = unit_side c * w in
    let x = in_component c (cross_in d l i) in
    let z = in_component c (along_in d l i) in
    let s = step_along d wide in
    let e : (z + unit_side c) * s + (x - 2) * step_across d wide ≡ z * s + (x - 2) * step_across d wide + unit_side c * s = omega (arith, add-mul z (unit_side c) s) in
    (λ k. lines_place d wide (in_component c (g.across k)) (in_component c (g.along k)))
    ∙ (λ k. lines_place d wide x (side_on c (along_in d l i) k))
    ∙ (λ k. record { at = e k; step = step_across d wide; next = s })
