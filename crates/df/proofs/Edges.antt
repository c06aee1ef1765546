-- The lines of a unit's edge: where they lie, and that what `window` leaves of them is the edge's window.
--     Lie, lie    the lines lie as the calls of `window` take them
--     edge_by    the edge's window; edge-quiet    without a strength
-- Assumes nothing.
use Prim.Native.Nat.{ℕ, ◌*◌, ◌≤◌, ◌<◌}
use mathlib.Core.Bool.{Bool, true, ◌&&◌}
use mathlib.Core.Path.{◌≡◌, refl, sym, ◌∙◌, subst}
use mathlib.Core.List.{List}
use native.Mathlib.Nat.{mul-one, mul-le-mul_left}
use native.Mathlib.Omega.{arith}
use borrow.Author.Tests.{lt-ltb, le-leb}
use lib.Dec.{eqb, leb}
use Rattle.laws.proofs.Bools.{or_true}
use Rattle.def.specs.declared.Component.{Component}
use Rattle.line.specs.declared.Mask.{Mask}
use Rattle.split.specs.Edges.{Pass, vertical, horizontal, edge_at}
use Rattle.df_rules.specs.Filter.{window}
use Rattle.df_rules.specs.Lanes.{Apart}
use Rattle.df_rules.specs.Lent.{units_across, units_along}
use Rattle.df_rules.specs.Places.{unit_side, step_across, step_along, line_start}
use Rattle.df_rules.specs.Window.{window_at, Samples}
use Rattle.df_rules.proofs.Edges.{cross_at, along_at, inside}
use Rattle.df_rules.proofs.Lanes.{apart_pass}
use Rattle.df_rules.proofs.Windows.{untouched}
use Rattle.window.specs.declared.Place.{Place}
use Rattle.window.specs.Window.{last_of, by_rows, by_halves, lies, window_of}
use Rattle.window.proofs.Windows.{one_window}
use Rattle.edge_filter.specs.Edges.{lines_place}

-- ---- where lines lie: m samples a unit's side, the edge at unit x across and z along

-- the way that a call takes them
way : (d : Pass) (m w h c a n long : ℕ) → n ≤ m * units_along d w h → last_of (lines_place d (m * w) c a) n < long → lies (lines_place d (m * w) c a) n long ≡ true
unfolding lies by_rows by_halves
way vertical m w h c a n long r l = rw (lt-ltb (last_of (lines_place vertical (m * w) c a) n) long l) (or_true (eqb (m * w) 1 && leb n 1))
way horizontal m w h c a n long r l = rw (lt-ltb (last_of (lines_place horizontal (m * w) c a) n) long l, le-leb n (m * w) r)

-- n lines at p lie in planes of so many samples, and no two share a place
pub record Lie (p : Place) (n long : ℕ) : Type 0 where
  pub within : last_of p n < long
  pub apart : Apart p.step p.next n
  pub so : (l : ℕ) → last_of p n < l → lies p n l ≡ true

pub lie : (m w h : ℕ) → 2 ≤ m → (d : Pass) (x z : ℕ) (p : Place) → p ≡ lines_place d (m * w) (m * x) (m * z)
    → 1 ≤ x → x < units_across d w h → z < units_along d w h → Lie p m (m * h * (m * w))
lie m w h two d x z p e inner across along = subst (λ (q : Place). Lie q m (m * h * (m * w))) (sym e) (record {
  within = inside m w h two d x z inner across along;
  apart = apart_pass m w h two d x z inner across along;
  so = λ l k. way d m w h (m * x) (m * z) m l (omega (arith, mul-one m, mul-le-mul_left {m = 1} {n = units_along d w h} m (omega arith))) k;
})

-- ---- their windows

edge_at_lem : (k : Component) (d : Pass) (w c a st st₁ : ℕ) (m m₁ : Mask) (p : Place) (xs xs₁ : List ℕ)
    → p ≡ lines_place d (unit_side k * w) (unit_side k * c) (unit_side k * a) → st ≡ st₁ → m ≡ m₁
    → xs₁ ≡ window_at m st p.step p.next p.at (unit_side k) xs → xs₁ ≡ window m₁ d k w st₁ (edge_at d c a) xs
edge_at_lem k d w c a st st₁ m m₁ p xs xs₁ e s f g =
    let n = unit_side k in
    g ∙ (λ i. window_at (f i) (s i) (e i).step (e i).next (e i).at n xs)
    ∙ (λ i. window_at m₁ st₁ (step_across d (n * w)) (step_along d (n * w)) (line_start d (n * w) (n * sym (cross_at d c a) i) (n * sym (along_at d c a) i)) n xs)

-- a strength of 0
pub edge_quiet : (k : Component) (d : Pass) (w c a st st₁ : ℕ) (m : Mask) (xs : List ℕ) → st ≡ st₁ → st ≡ 0 → xs ≡ window m d k w st₁ (edge_at d c a) xs
edge_quiet k d w c a st st₁ m xs e z =
    edge_at_lem k d w c a st st₁ m m (lines_place d (unit_side k * w) (unit_side k * c) (unit_side k * a)) xs xs refl e refl (untouched _ _ _ _ _ _ xs z)

module _ (k : Component) (d : Pass) (w c a : ℕ) (p : Place) (e : p ≡ lines_place d (unit_side k * w) (unit_side k * c) (unit_side k * a))
    (so : Bool) (t : so ≡ true) (xs xs₁ : List ℕ) (all : Samples xs) where
  pub edge_by : (st st₁ : ℕ) (m m₁ : Mask) → st ≡ st₁ → m ≡ m₁ → Apart p.step p.next (unit_side k)
      → xs₁ ≡ window_of so m (λ j. st) p (unit_side k) xs → xs₁ ≡ window m₁ d k w st₁ (edge_at d c a) xs
  edge_by st st₁ m m₁ s f g x = edge_at_lem k d w c a st st₁ m m₁ p xs xs₁ e s f (x ∙ one_window so t m p xs all st (unit_side k) g)
