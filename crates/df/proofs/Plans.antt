-- Plans: a list of edges read back, places that are its strengths, and that filtering by a plan is filtering its edges.
--     read-back, read_units    a written list holds its edges, at their luma samples
--     plan_filters    filtering a plane by a plan is filtering its edges there, where its places and marks are those of the maps
--     plan_stays    a plane stays a plane
--     plan_empty    and one without samples stays so
--     plan_known    what `plan_edges` stores for edges whose units lie in the maps is their plan
-- Assumes nothing.
use Prim.Native.Nat.{ℕ, zero, suc, ◌+◌, ◌-◌, ◌*◌, ◌/◌, ◌%◌, ◌≤◌, ◌<◌}
use mathlib.Core.Bool.{true}
use mathlib.Core.Path.{◌≡◌, refl, sym, ap, ap₂, ◌∙◌}
use mathlib.Core.List.{List, [], ◌∷◌, ◌++◌, Memᴰ}
use native.Mathlib.Nat.{le_of_suc-le-suc, not-suc-le-zero}
use native.Mathlib.Omega.{arith}
use borrow.Author.Tests.{lt-ltb}
use lib.Dec.{ltb, eqb}
use lib.IntN.{ℤ}
use lib.ListN.{length, get_or, take, get_or-append}
use lib.Seq.{sets-eq, length-sets, take-suc, take_all}
use Rattle.def.specs.declared.Component.{Component}
use Rattle.def.specs.declared.Format.{Format}
use Rattle.line.specs.declared.Mask.{Mask}
use Rattle.line.specs.Line.{mask_of}
use Rattle.laws.specs.Bits.{field_of}
use Rattle.laws.specs.Orders.{run, each}
use Rattle.laws.proofs.Orders.{run_append}
use Rattle.split.specs.Edges.{Pass, vertical, horizontal, Edge, edge, edge_at, edge_numbers}
use Rattle.split.specs.Rows.{cross_of, along_of}
use Rattle.split.proofs.Demand3.{edges_twice}
use Rattle.df_rules.specs.Filter.{mask_at, window, filtered}
use Rattle.df_rules.specs.Lent.{LentPicture, Unit, Marked}
use Rattle.df_rules.specs.Places.{step_across, unit_q, unit_p}
use Rattle.df_rules.specs.Strength.{Over, Maps, row_by, strength_of, strength}
use Rattle.df_rules.proofs.Edges.{spot, unit_of_lem, mark_of, unit_q_lem, unit_p_lem, p_before}
use Rattle.df_rules.proofs.Planes.{window_long, window_small, no_samples}
use Rattle.bands_rules.proofs.Lists.{Lies}
use Rattle.row.specs.Between.{There}
use Rattle.rows_rules.specs.Rule.{has_side, first_bit}
use Rattle.edge_filter.specs.Filter.{mask_by}
use Rattle.edge_place.specs.Places.{place_in, marks_in}
use Rattle.edge_place.specs.Plans.{Input, lists_of, edges_in, told, planned}
use Rattle.edge_place.proofs.Plans.{units_in_lem, has_both, all_planned, place_told, marks_told, place_in_plan, marks_in_plan}
use Rattle.edge_place.proofs.Units.{place_in_lem, marks_in_lem}
use Rattle.rows_rules.proofs.RightMap.{row_in_byte}
use Rattle.rows_rules.proofs.Sides.{column_of, row_of}
use Rattle.df.specs.Plan.{edge_from, edges_from, place_at, marks_at, Planned, filter_in, RowsLent, PlaneOf, At}
use Rattle.edges.specs.Put.{Put}

-- ---- a list read back

none : Edge
none = edge 0 0

mem_at : (l : List Edge) (j : ℕ) → j < length l → Memᴰ (get_or l j none) l
mem_at [] j h = absurd (not-suc-le-zero h)
mem_at (p ∷ l) zero h = Memᴰ.head refl
mem_at (p ∷ l) (suc j) h = Memᴰ.tail (mem_at l j (le_of_suc-le-suc h))

record Reads (e : Edge) (x y : ℕ) : Type 0 where
  column : x ≡ 4 * e.x
  row : y ≡ 4 * e.y

numbers_at : (l : List Edge) (j : ℕ) → j < length l → let vs = each edge_numbers l in Reads (get_or l j none) (get_or vs (2 * j) 0) (get_or vs (2 * j + 1) 0)
unfolding each
numbers_at [] j h = absurd (not-suc-le-zero h)
numbers_at (p ∷ l) zero h = record { column = refl; row = refl }
numbers_at (p ∷ l) (suc j) h =
    let i = numbers_at l j (le_of_suc-le-suc h) in
    let a : 2 * suc j ≡ suc (suc (2 * j)) = omega arith in
    let b : suc (suc (2 * j)) + 1 ≡ suc (suc (2 * j + 1)) = omega arith in
    rw (a, b) i

-- an edge's first luma sample
at_edge : (d : Pass) (w top h : ℕ) (e : Edge) (x y : ℕ) → Lies d w top h e → Reads e x y → At d w h x y
at_edge vertical w top h e x y g r = record {
  whole_c = omega (arith, r.column);
  whole_a = omega (arith, r.row);
  inner = omega (arith, r.column, g.inner);
  across = omega (arith, r.column, g.column);
  along = omega (arith, r.row, g.below);
}
at_edge horizontal w top h e x y g r = record {
  whole_c = omega (arith, r.row);
  whole_a = omega (arith, r.column);
  inner = omega (arith, r.row, g.inner);
  across = omega (arith, r.row, g.below);
  along = omega (arith, r.column, g.column);
}

module _ (l : List Edge) (few : length l ≤ 256) {out list : List ℕ} {r : ℕ} (long : length out ≡ 512) (z : Put (each edge_numbers l) out 0 list r) where
  pub count : r / 2 ≡ length l
  count = omega (arith, z.count, edges_twice l)

  pub list_long : length list ≡ 512
  list_long = ap length z.put ∙ length-sets out 0 (each edge_numbers l) ∙ long

  number : (k : ℕ) → k < 2 * length l → get_or list k 0 ≡ get_or (each edge_numbers l) k 0
  number k g =
      let t = edges_twice l in
      ap (λ (v : List ℕ). get_or v k 0) (z.put ∙ sets-eq (each edge_numbers l) out 0 (omega arith)) ∙ get_or-append (each edge_numbers l) _ 0 k (omega arith)

  reads : (j : ℕ) → j < length l → Reads (get_or l j none) (get_or list (2 * j) 0) (get_or list (2 * j + 1) 0)
  reads j g = rw (number (2 * j) (omega arith), number (2 * j + 1) (omega arith)) (numbers_at l j g)

  up_to : (m : ℕ) → m ≤ length l → edges_from list m ≡ take m l
  unfolding edges_from
  up_to zero g = refl
  up_to (suc m) g =
      let q = reads m g in
      let a : get_or list (2 * m) 0 / 4 ≡ (get_or l m none).x = omega (arith, q.column) in
      let b : get_or list (2 * m + 1) 0 / 4 ≡ (get_or l m none).y = omega (arith, q.row) in
      sym (take-suc l m none g ∙ ap₂ (λ (k : List Edge) (p : Edge). k ++ (p ∷ [])) (sym (up_to m (omega arith))) (sym (λ t. edge (a t) (b t))))

  pub read_back : edges_from list (r / 2) ≡ l
  read_back = up_to (r / 2) (omega (arith, count)) ∙ take_all (r / 2) l (omega (arith, count))

  pub read_units : (d : Pass) (w top h : ℕ) → ((e : Edge) → Memᴰ e l → Lies d w top h e)
      → (k : ℕ) → k < r / 2 → At d w h (get_or list (2 * k) 0) (get_or list (2 * k + 1) 0)
  read_units d w top h f k g =
      let g' : k < length l = omega (arith, count) in
      at_edge d w top h (get_or l k none) _ _ (f (get_or l k none) (mem_at l k g')) (reads k g')

-- ---- an edge's units lie in the maps

pub record Known (d : Pass) (w : ℕ) (words : List ℕ) (over : Over) (x y : ℕ) : Type 0 where
  pub before : step_across d w ≤ unit_q w (edge (x / 4) (y / 4))
  pub side : has_side d w (unit_q w (edge (x / 4) (y / 4))) ≡ true
  pub q : Unit words over.motion over.refs (unit_q w (edge (x / 4) (y / 4)))
  pub p : Unit words over.motion over.refs (unit_p d w (edge (x / 4) (y / 4)))
  pub q_mark : Marked over.keep (unit_q w (edge (x / 4) (y / 4)))
  pub p_mark : Marked over.keep (unit_p d w (edge (x / 4) (y / 4)))

-- those of a list's first n edges, and there is room for their plan
pub record Knowns (d : Pass) (w : ℕ) (words : List ℕ) (over : Over) (rows l : List ℕ) (n : ℕ) (places marks : List ℕ) : Type 0 where
  pub wide : w ≤ 1024
  pub long : 2 * n ≤ length l
  pub fits : n ≤ length places
  pub fits_marks : n ≤ length marks
  pub right : RowsLent w words over.motion over.refs rows
  pub edges : (k : ℕ) → k < n → Known d w words over (get_or l (2 * k) 0) (get_or l (2 * k + 1) 0)

pub edge_known : (d : Pass) {format : Format} {w h : ℕ} {y u v words : List ℕ} {over : Over} {t : List ℕ} (a b : ℕ)
    → LentPicture format w h y u v words over t → At d w h a b → Known d w words over a b
edge_known vertical {w} {h} a b f g =
    let k = spot vertical w h a b f.wide f.high g in
    record {
      before = p_before w h vertical (a / 4) (b / 4) k.inner;
      side = ap (ltb 0) (column_of w (a / 4) (b / 4) k.across) ∙ lt-ltb 0 (a / 4) k.inner;
      q = unit_q_lem w h _ (unit_of_lem w h f) vertical (a / 4) (b / 4) k.across k.along;
      p = unit_p_lem w h _ (unit_of_lem w h f) vertical (a / 4) (b / 4) k.across k.along;
      q_mark = unit_q_lem w h _ (mark_of w h f) vertical (a / 4) (b / 4) k.across k.along;
      p_mark = unit_p_lem w h _ (mark_of w h f) vertical (a / 4) (b / 4) k.across k.along;
    }
edge_known horizontal {w} {h} a b f g =
    let k = spot horizontal w h b a f.wide f.high g in
    record {
      before = p_before w h horizontal (b / 4) (a / 4) k.inner;
      side = ap (ltb 0) (row_of w (a / 4) (b / 4) k.along) ∙ lt-ltb 0 (b / 4) k.inner;
      q = unit_q_lem w h _ (unit_of_lem w h f) horizontal (b / 4) (a / 4) k.across k.along;
      p = unit_p_lem w h _ (unit_of_lem w h f) horizontal (b / 4) (a / 4) k.across k.along;
      q_mark = unit_q_lem w h _ (mark_of w h f) horizontal (b / 4) (a / 4) k.across k.along;
      p_mark = unit_p_lem w h _ (mark_of w h f) horizontal (b / 4) (a / 4) k.across k.along;
    }

-- across and along, and back
pub at_cross : (d : Pass) (x y : ℕ) → edge_at d (cross_of d (edge x y) / 4) (along_of d (edge x y) / 4) ≡ edge (x / 4) (y / 4)
at_cross vertical x y = refl
at_cross horizontal x y = refl

-- the mask by an edge's marks is that by its units
mask_by_units : (m : Maps) → ((k : ℕ) → get_or m.over.keep k 0 ≤ 1) → (c : Component) (d : Pass) (w : ℕ) (e : Edge) (k : ℕ) → k ≡ marks_at m d w e → mask_by c k ≡ mask_at m d c w e
mask_by_units m few c d w e k g =
    let p : k % 2 ≡ get_or m.over.keep (unit_p d w e) 0 = omega (arith, g, few (unit_p d w e)) in
    let q : k / 2 ≡ get_or m.over.keep (unit_q w e) 0 = omega (arith, g, few (unit_p d w e)) in
    λ i. mask_of c (eqb (p i) 1) (eqb (q i) 1)

-- ---- a plane, filtered by a plan

module _ (t : List ℕ) (first : ℕ) (c : Component) (d : Pass) (w : ℕ) where
  -- the strength at an edge's place is its own
  strength_at_place : (m : Maps) (at : ℕ → ℕ) → ((r q : ℕ) → first + (r + q) ≡ r + at q) → (e : Edge) (k : ℕ) → k ≡ place_at m d w e → 4 * get_or t (first + k) 0 ≡ strength m t at d w e
  unfolding strength_of
  strength_at_place m at f e k q = ap (λ (j : ℕ). 4 * get_or t j 0) (ap (λ (j : ℕ). first + j) q ∙ f _ _)

  -- so filtering by a plan is filtering its edges
  pub plan_filters : (m : Maps) (at : ℕ → ℕ) → ((r q : ℕ) → first + (r + q) ≡ r + at q) → ((k : ℕ) → get_or m.over.keep k 0 ≤ 1)
      → (l places marks : List ℕ) (n : ℕ) (xs : List ℕ) → Planned m d w l n places marks
      → filter_in t first c d w l places marks n xs ≡ run (filtered m t at d c w) (edges_from l n) xs
  unfolding filter_in edges_from run
  plan_filters m at f few l places marks zero xs g = refl
  plan_filters m at f few l places marks (suc n) xs g =
      let e = edge_from l n in
      let h : n < suc n = omega arith in
      ap (window (mask_by c (get_or marks n 0)) d c w (4 * get_or t (first + get_or places n 0) 0) e)
      (plan_filters m at f few l places marks n xs (record { at = λ k i. g.at k (omega arith); kept = λ k i. g.kept k (omega arith) }))
      ∙ ap₂ (λ (k : Mask) (st : ℕ). window k d c w st e (run (filtered m t at d c w) (edges_from l n) xs))
      (mask_by_units m few c d w e (get_or marks n 0) (g.kept n h)) (strength_at_place m at f e (get_or places n 0) (g.at n h))
      ∙ sym (run_append (filtered m t at d c w) (edges_from l n) (e ∷ []) xs)

  module _ (l places marks : List ℕ) where
    abbrev by : ℕ → List ℕ → List ℕ
    by n xs = filter_in t first c d w l places marks n xs

    -- a plane stays a plane
    pub plan_stays : (m h n : ℕ) (xs : List ℕ) → PlaneOf m w h xs → PlaneOf m w h (by n xs)
    unfolding filter_in
    plan_stays m h zero xs f = f
    plan_stays m h (suc n) xs f =
        let g = plan_stays m h n xs f in
        record { wide = g.wide; high = g.high; long = window_long _ _ _ _ _ _ _ ∙ g.long; all = window_small _ _ _ _ _ _ _ g.all }

    pub plan_empty : (n : ℕ) (xs : List ℕ) → length xs ≡ 0 → xs ≡ by n xs
    unfolding filter_in
    plan_empty zero xs e = refl
    plan_empty (suc n) xs e = no_samples xs e ∙ sym (no_samples _ (window_long _ _ _ _ _ _ _ ∙ ap length (sym (plan_empty n xs e)) ∙ e))

-- ---- by the maps

-- a unit of the maps
unit_there : {words : List ℕ} {motion refs : List ℤ} {k : ℕ} → Unit words motion refs k → There words motion refs k
unit_there u = record { word = u.word; mv = u.mv; refi = u.refi }

-- a byte of the map, if it is lent, says the row of an edge
byte_has_row : (d : Pass) (w : ℕ) (words : List ℕ) (motion refs : List ℤ) (rows : List ℕ) → RowsLent w words motion refs rows → {q : ℕ} → has_side d w q ≡ true
    → q < length rows → field_of (first_bit d) 2 (get_or rows q 0) ≡ row_by words motion refs q (q - step_across d w)
byte_has_row d w words motion refs rows r {q} s l = row_in_byte words motion refs w d q _ (r q l) s

-- ---- what is answered for the units of an edge

pub place_known : (d : Pass) (w : ℕ) {words : List ℕ} {over : Over} (rows : List ℕ) → RowsLent w words over.motion over.refs rows → {x y : ℕ} → Known d w words over x y
    → let e = edge (x / 4) (y / 4) in place_in d words over.motion over.refs rows (unit_q w e) (unit_p d w e) ≡ place_at (record { words = words; over = over }) d w e
place_known d w {words} {over} rows right k =
    place_in_lem d words over.motion over.refs rows _ _ (unit_there k.q) (unit_there k.p) (byte_has_row d w words over.motion over.refs rows right k.side) k.q.qp

pub marks_known : (d : Pass) (w : ℕ) {words : List ℕ} {over : Over} {x y : ℕ} → Known d w words over x y
    → let e = edge (x / 4) (y / 4) in marks_in over.keep (unit_q w e) (unit_p d w e) ≡ marks_at (record { words = words; over = over }) d w e
marks_known d w {words} {over} k = marks_in_lem over.keep _ _ k.q_mark.few k.p_mark.few

-- ---- what the call answers for a list

module _ (d : Pass) (w : ℕ) {words : List ℕ} {over : Over} (rows l : List ℕ) (n : ℕ) {places₀ marks₀ : List ℕ} (f : Knowns d w words over rows l n places₀ marks₀) where
  abbrev input : Pass → Input
  input p = record { pass = p; columns = w; words = words; motion = over.motion; refs = over.refs; keep = over.keep; rows = rows; list = l; n = n }

  units_told : (k : ℕ) → k < n → told (input d) k ≡ true
  units_told k h =
      let e = f.edges k h in
      has_both _ _ _ (record {
        before = e.before;
        under = units_in_lem _ _ _ _ _ (record { word = e.q.word; mv = omega (arith, e.q.mv); refi = omega (arith, e.q.refi); mark = e.q_mark.there });
      })

  all : n ≤ edges_in w (length l) n (length places₀) (length marks₀)
  all = all_planned w (length l) n (length places₀) (length marks₀) (omega (arith, f.wide)) f.long f.fits f.fits_marks

  -- it is the plan by the maps
  pub plan_known : {p : Pass} {places marks : List ℕ} → p ≡ d → lists_of places marks ≡ planned (input p) (lists_of places₀ marks₀) → Planned (record { words = words; over = over }) d w l n places marks
  plan_known {p} {places} {marks} g e =
      let e' = e ∙ ap (λ (x : Pass). planned (input x) (lists_of places₀ marks₀)) g in
      record {
        at = λ k h. place_in_plan (input d) places₀ marks₀ places marks e' k (omega (arith, all)) ∙ sym (place_told (input d) k (units_told k h)) ∙ place_known d w rows f.right (f.edges k h);
        kept = λ k h. marks_in_plan (input d) places₀ marks₀ places marks e' k (omega (arith, all)) ∙ sym (marks_told (input d) k (units_told k h)) ∙ marks_known d w (f.edges k h);
      }
