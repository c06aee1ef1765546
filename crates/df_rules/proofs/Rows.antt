-- A pass's list and its list row by row come to the same plane. A window reads and writes in one row of units in the vertical pass, in one column of
-- units in the horizontal one; there both lists have the same order, and windows of different rows, or columns, commute.
-- Assumes nothing.
use Rattle.std.specs.Prelude.{Ok}
use Prim.Native.Nat.{ℕ, ◌+◌, ◌-◌, ◌*◌, ◌/◌, ◌%◌, ◌≤◌, ◌<◌}
use mathlib.Core.Path.{◌≡◌, refl, sym, ap, ◌∙◌}
use mathlib.Core.Bool.{Bool}
use mathlib.Core.List.{List, Memᴰ}
use mathlib.Core.Logic.{◌↔◌}
use native.Mathlib.Nat.{add-mul, mul_comm, mul-one}
use native.Mathlib.Omega.{arith}
use lib.Arith.{digits_div, digits_mod}
use Rattle.def.specs.declared.Component.{Component}
use Rattle.def.specs.declared.Component.TheVariants.{Luma, Chroma}
use Rattle.laws.specs.Orders.{Pairwise, run}
use Rattle.laws.proofs.Orders.{pairwise_imp, same_run}
use Rattle.line.specs.declared.Mask.{Mask}
use Rattle.split.specs.Edges.{Pass, vertical, horizontal, Edge, edge_at, edge_list}
use Rattle.split.specs.Picture.{picture_walk}
use Rattle.split.specs.Rows.{cross_of, along_of, EdgeOf, row_list}
use Rattle.split.proofs.Demand3.{Across, members, same_members, across_order, rows_across}
use Rattle.df_rules.specs.Filter.{window, filtered}
use Rattle.df_rules.specs.Places.{unit_side, step_across, step_along, line_start}
use Rattle.df_rules.specs.Strength.{Maps}
use Rattle.df_rules.proofs.Edges.{last_in, next_in, starts}
use Rattle.df_rules.proofs.Local.{Local, Keyed, commute, window_local}

-- ---- where a window lies

-- of a place in a plane of `wide` a row: its row in the vertical pass, its column in the horizontal one
abbrev pub digit_along : Pass → (wide i : ℕ) → ℕ
digit_along vertical wide i = i / wide
digit_along horizontal wide i = i % wide

pub digit_along_lem : (d : Pass) (wide c a : ℕ) → (edge_at d c a).x < wide → digit_along d wide (a * step_along d wide + c * step_across d wide) ≡ a
digit_along_lem vertical wide c a p = rw (mul-one c) (digits_div a p)
digit_along_lem horizontal wide c a p =
    let e : a * 1 + c * wide ≡ c * wide + a = omega (arith, mul-one a) in
    ap (λ (i : ℕ). i % wide) e ∙ digits_mod c p

-- sample j of line k
pub sample_at_lem : (d : Pass) (wide c a k j : ℕ) → line_start d wide c a + k * step_along d wide + j * step_across d wide ≡ (a + k) * step_along d wide + (c - 2 + j) * step_across d wide
sample_at_lem d wide c a k j = omega (arith, add-mul a k (step_along d wide), add-mul (c - 2) j (step_across d wide))

-- the row of units, or the column of units, of a place in a plane of w units a row, of m samples a side
abbrev unit_along : Pass → (m w i : ℕ) → ℕ
unit_along d m w i = digit_along d (m * w) i / m

module _ (m w : ℕ) (two : 2 ≤ m) where
  -- no sample of an edge lies past its row's end
  pub in_row : (d : Pass) (e : Edge) (k j : ℕ) → 0 < cross_of d e → e.x < w → k < m → j < 4 → (edge_at d (m * cross_of d e - 2 + j) (m * along_of d e + k)).x < m * w
  in_row vertical e k j o p hk hj = omega (arith, starts m w w two e.x o, next_in m w w two e.x w p)
  in_row horizontal e k j o p hk hj = omega (arith, last_in m w w two e.x w p)

  unit_along_lem : (d : Pass) (e : Edge) → 0 < cross_of d e → e.x < w → (k j : ℕ) → k < m → j < 4
      → unit_along d m w (line_start d (m * w) (m * cross_of d e) (m * along_of d e) + k * step_along d (m * w) + j * step_across d (m * w)) ≡ along_of d e
  unit_along_lem d e o p k j hk hj =
      ap (unit_along d m w) (sample_at_lem d (m * w) (m * cross_of d e) (m * along_of d e) k j)
      ∙ ap (λ (i : ℕ). i / m) (digit_along_lem d (m * w) (m * cross_of d e - 2 + j) (m * along_of d e + k) (in_row d e k j o p hk hj))
      ∙ ap (λ (i : ℕ). (i + k) / m) (mul_comm m (along_of d e)) ∙ digits_div (along_of d e) hk

pub two_samples : (c : Component) → 2 ≤ unit_side c
two_samples Luma = omega arith
two_samples Chroma = omega arith

windowed : (k : Mask) (d : Pass) (c : Component) (w st : ℕ) (e : Edge) → 0 < cross_of d e → e.x < w → Local (Keyed (unit_along d (unit_side c) w) (along_of d e)) (window k d c w st e)
windowed k d c w st e o p = window_local _ k st _ _ _ _ (unit_along_lem (unit_side c) w (two_samples c) d e o p)

-- ---- the two lists

module _ (halved : Bool) (s : List ℕ) (w h : ℕ) (pos : 1 ≤ w) (accepted : (picture_walk s w h).answer ≡ Ok tt) (d : Pass) where
  -- what either list has of an edge and one that follows it
  record Follows (e f : Edge) : Type 0 where
    first : EdgeOf d halved s w h e
    second : EdgeOf d halved s w h f
    across : Across d e f

  listed : Pairwise Follows (edge_list d halved s w h)
  listed = pairwise_imp (edge_list d halved s w h)
      (λ e f i j o. record { first = (members halved s w h pos accepted d e).0 i; second = (members halved s w h pos accepted d f).0 j; across = o })
      (across_order halved s w h pos accepted d)

  pub row_members : (e : Edge) → Memᴰ e (row_list d halved s w h) ↔ EdgeOf d halved s w h e
  row_members e =
      let a = members halved s w h pos accepted d e in
      let b = same_members halved s w h pos accepted d e in
      (λ i. a.0 (b.1 i), λ o. b.0 (a.1 o))

  by_rows_lem : Pairwise Follows (row_list d halved s w h)
  by_rows_lem = pairwise_imp (row_list d halved s w h) (λ e f i j o. record { first = (row_members e).0 i; second = (row_members f).0 j; across = o }) (rows_across halved s w h pos accepted d)

  -- two edges of one place along follow each other in one way only, so the two lists differ in pairs that commute
  module _ (key : ℕ → ℕ) (step : Edge → List ℕ → List ℕ) (near : (e : Edge) → EdgeOf d halved s w h e → Local (Keyed key (along_of d e)) (step e)) where
    either_way : (e f : Edge) → Follows e f → Follows f e → (xs : List ℕ) → step e (step f xs) ≡ step f (step e xs)
    either_way e f o p =
        commute key (along_of d e) (along_of d f) (step e) (step f) (near e o.first) (near f o.second)
        (λ q. let a = o.across q in let b = p.across (sym q) in omega arith)

    steps_rows : (xs : List ℕ) → run step (edge_list d halved s w h) xs ≡ run step (row_list d halved s w h) xs
    steps_rows =
        same_run step Follows (λ e o. let a = o.across refl in omega arith) either_way (edge_list d halved s w h) (row_list d halved s w h) listed by_rows_lem
        (λ e. (same_members halved s w h pos accepted d e).0) (λ e. (same_members halved s w h pos accepted d e).1)

  pub filtered_rows : (m : Maps) (t : List ℕ) (at : ℕ → ℕ) (c : Component) (xs : List ℕ)
      → run (filtered m t at d c w) (edge_list d halved s w h) xs ≡ run (filtered m t at d c w) (row_list d halved s w h) xs
  filtered_rows m t at c = steps_rows (unit_along d (unit_side c) w) (filtered m t at d c w) (λ e o. windowed _ d c w _ e o.sure.inner o.column)
