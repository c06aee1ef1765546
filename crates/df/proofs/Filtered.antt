-- In a picture the edges of a list that `edge_filter` filters are the edges of its plan: lines lie in the planes there, and samples are held at nothing.
--     by_plan    a plane, edge by edge
--     luma_by_plan, chroma_by_plan    what the calls leave, by how many edges they count
-- Assumes nothing.
use Prim.Native.Nat.{ℕ, zero, suc, ◌+◌, ◌*◌, ◌/◌, ◌≤◌, ◌<◌}
use mathlib.Core.Bool.{Bool, true}
use mathlib.Core.List.{List}
use mathlib.Core.Path.{◌≡◌, refl, sym, ap, ◌∙◌}
use native.Mathlib.Decide.{dec_lt}
use native.Mathlib.Omega.{arith}
use borrow.Author.Tests.{eqb-true, eq-eqb, lt-ltb, le-ltb, le-leb}
use lib.Dec.{eqb, ltb}
use lib.ListN.{length, get_or, get_or-eq_default}
use Rattle.laws.specs.Index.{pick}
use Rattle.def.specs.declared.Component.{Component}
use Rattle.def.specs.declared.Component.TheVariants.{Luma, Chroma}
use Rattle.def.specs.declared.Format.{Format}
use Rattle.def.specs.declared.Format.TheVariants.{Grey, Colour}
use Rattle.split.specs.Edges.{Pass}
use Rattle.split.proofs.Induct.{test}
use Rattle.split.proofs.Sides.{and-true}
use Rattle.df_rules.specs.Filter.{window}
use Rattle.df_rules.specs.Places.{unit_side}
use Rattle.df_rules.proofs.Edges.{Spot, spot}
use Rattle.df_rules.proofs.Windows.{untouched}
use Rattle.window.specs.Window.{last_of, inside, lies}
use Rattle.edge_filter.specs.Edges.{lines_place, cross_in, along_in, in_component, place_from}
use Rattle.edge_filter.specs.Filter.{mask_by, strength_at, strength_in, quiet_luma, quiet_chroma, edge_of, filter_by, count_luma, count_chroma}
use Rattle.df.specs.Plan.{edge_from, filter_in, PlaneOf, ColourOf, At}
use Rattle.df.proofs.Edges.{lie, edge_by}
use Rattle.df.proofs.Plans.{at_cross, plan_stays, plan_empty}

-- ---- an edge of a picture

two_side : (c : Component) → 2 ≤ unit_side c
two_side Luma = omega arith
two_side Chroma = omega arith

-- a unit's first sample in a component, across and along
across_in : (c : Component) {d : Pass} {w h x z : ℕ} → Spot d w h x z → in_component c x ≡ unit_side c * (x / 4)
across_in Luma s = s.luma_x
across_in Chroma s = s.chroma_x

along_in_lem : (c : Component) {d : Pass} {w h x z : ℕ} → Spot d w h x z → in_component c z ≡ unit_side c * (z / 4)
along_in_lem Luma s = s.luma_z
along_in_lem Chroma s = s.chroma_z

module _ (c : Component) (d : Pass) (w h : ℕ) (l : List ℕ) where
  edge_in_picture : (i k st : ℕ) (xs : List ℕ) → PlaneOf (unit_side c) w h xs → At d w h (get_or l (2 * i) 0) (get_or l (2 * i + 1) 0)
      → edge_of c k st (place_from c d w l i) xs ≡ window (mask_by c k) d c w st (edge_from l i) xs
  unfolding edge_of
  edge_in_picture i k st xs p u =
      let m = unit_side c in
      let x = cross_in d l i in
      let z = along_in d l i in
      let s = spot d w h x z p.wide p.high u in
      let q = place_from c d w l i in
      let e : q ≡ lines_place d (m * w) (m * (x / 4)) (m * (z / 4)) = λ j. lines_place d (m * w) (across_in c s j) (along_in_lem c s j) in
      let g = lie m w h (two_side c) d (x / 4) (z / 4) q e s.inner s.across s.along in
      let within : last_of q m < length xs = rw p.long g.within in
      let so : pick (eqb k 0) (lies q m (length xs)) (inside q m (length xs)) ≡ true
      = test (eqb k 0) (λ t. rw t (g.so (length xs) within)) (λ t. rw t (lt-ltb (last_of q m) (length xs) within)) in
      edge_by c d w (x / 4) (z / 4) q e _ so xs _ p.all st st (mask_by c k) (mask_by c k) refl refl g.apart refl
      ∙ ap (λ b. window (mask_by c k) d c w st b xs) (at_cross d (get_or l (2 * i) 0) (get_or l (2 * i + 1) 0))

-- ---- a list's edges

-- an entry is four times what the table has, and there is none past its 624
strength_by_lem : (t : List ℕ) (k : ℕ) → length t ≡ 624 → strength_at t k ≡ 4 * get_or t k 0
unfolding strength_at
strength_by_lem t k h = go (dec_lt k 624) where
  go : Dec (k < 624) → pick (ltb k 624) (4 * get_or t k 0) 0 ≡ 4 * get_or t k 0
  go (yes m) = rw (lt-ltb k 624 m) refl
  go (no m) = rw (le-ltb k 624 (omega arith)) (ap (λ (n : ℕ). 4 * n) (sym (get_or-eq_default t 0 (omega (arith, h)))))

module _ (quiet : ℕ → Bool) (t : List ℕ) (long : length t ≡ 624) (first : ℕ) (c : Component) (d : Pass) (w h : ℕ) (l places marks : List ℕ)
    (none : (i : ℕ) → quiet i ≡ true → strength_in t first places i ≡ 0) where
  abbrev planned : ℕ → List ℕ → List ℕ
  planned n xs = filter_in t first c d w l places marks n xs

  by_plan : (n : ℕ) (xs : List ℕ) → PlaneOf (unit_side c) w h xs → ((k : ℕ) → k < n → At d w h (get_or l (2 * k) 0) (get_or l (2 * k + 1) 0))
      → filter_by quiet t first c d w l places marks n xs ≡ planned n xs
  unfolding filter_by filter_in
  by_plan zero xs p u = refl
  by_plan (suc n) xs p u =
      let k = get_or marks n 0 in
      let e = strength_by_lem t (first + get_or places n 0) long in
      let st = 4 * get_or t (first + get_or places n 0) 0 in
      let ys = planned n xs in
      (λ j. pick (quiet n) (by_plan n xs p (λ m i. u m (omega arith)) j) (edge_of c k (e j) (place_from c d w l n) (by_plan n xs p (λ m i. u m (omega arith)) j)))
      ∙ test (quiet n)
      (λ b. rw b (untouched _ st _ _ _ _ ys (sym e ∙ none n b)))
      (λ b. rw b (edge_in_picture c d w h l n k st ys (plan_stays t first c d w l places marks (unit_side c) h n xs p) (u n (omega arith))))

-- ---- what the calls leave: n edges of a list that has no more than 256

module _ (t : List ℕ) (long : length t ≡ 624) (d : Pass) (w h : ℕ) (l places marks : List ℕ) (n : ℕ) (few : n ≤ 256)
    (units : (k : ℕ) → k < n → At d w h (get_or l (2 * k) 0) (get_or l (2 * k + 1) 0)) where
  counted : w ≤ 1024 → count_luma w n ≡ n
  unfolding count_luma
  counted wide = rw (le-leb w 1024 wide) (omega arith)

  pub luma_by_plan : (xs ys : List ℕ) → PlaneOf 4 w h xs → ys ≡ filter_by (quiet_luma t places) t 0 Luma d w l places marks (count_luma w n) xs → ys ≡ filter_in t 0 Luma d w l places marks n xs
  luma_by_plan xs ys p e =
      e ∙ ap (λ (k : ℕ). filter_by (quiet_luma t places) t 0 Luma d w l places marks k xs) (counted p.wide)
      ∙ by_plan (quiet_luma t places) t long 0 Luma d w h l places marks (λ i b. eqb-true _ _ b) n xs p units

  module _ (first : ℕ) (none : (i : ℕ) → quiet_chroma t places i ≡ true → strength_in t first places i ≡ 0) where
    chroma_by_plan : (f : Format) (lu lv : ℕ) (xs ys : List ℕ) → lu ≡ lv → ColourOf f w h xs
        → ys ≡ filter_by (quiet_chroma t places) t first Chroma d w l places marks (count_chroma f w n lu lv) xs → ys ≡ filter_in t first Chroma d w l places marks n xs
    unfolding count_chroma filter_by
    chroma_by_plan Grey lu lv xs ys s p e = e ∙ plan_empty t first Chroma d w l places marks n xs p.long
    chroma_by_plan Colour lu lv xs ys s p e =
        let one : pick (eqb lu lv) (count_luma w n) 0 ≡ n = rw (eq-eqb lu lv s) (counted p.wide) in
        e ∙ ap (λ (k : ℕ). filter_by (quiet_chroma t places) t first Chroma d w l places marks k xs) one
        ∙ by_plan (quiet_chroma t places) t long first Chroma d w h l places marks none n xs (record { wide = p.wide; high = p.high; long = p.long; all = p.all }) units

  -- U's and V's
  pub u_by_plan : (f : Format) (lu lv : ℕ) (xs ys : List ℕ) → lu ≡ lv → ColourOf f w h xs
      → ys ≡ filter_by (quiet_chroma t places) t 208 Chroma d w l places marks (count_chroma f w n lu lv) xs → ys ≡ filter_in t 208 Chroma d w l places marks n xs
  u_by_plan = chroma_by_plan 208 (λ i b. eqb-true _ _ (and-true (eqb (strength_in t 208 places i) 0) (eqb (strength_in t 416 places i) 0) b).0)

  pub v_by_plan : (f : Format) (lu lv : ℕ) (xs ys : List ℕ) → lu ≡ lv → ColourOf f w h xs
      → ys ≡ filter_by (quiet_chroma t places) t 416 Chroma d w l places marks (count_chroma f w n lu lv) xs → ys ≡ filter_in t 416 Chroma d w l places marks n xs
  v_by_plan = chroma_by_plan 416 (λ i b. eqb-true _ _ (and-true (eqb (strength_in t 208 places i) 0) (eqb (strength_in t 416 places i) 0) b).1)
