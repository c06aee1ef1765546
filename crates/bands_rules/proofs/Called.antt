-- The calls of a picture's bands, each on what it is lent, come to the planes of the whole picture; and what is final after each.
--     Held    what holds of a plane of the picture, and of one without samples: a grey picture's U and V
--     calls_finished    after the last band
--     calls_final    after an earlier one, above its last two rows of samples
-- Assumes nothing.
use mathlib.Core.Bool.{Bool}
use mathlib.Core.Logic.{inl, inr}
use mathlib.Core.Path.{◌≡◌, refl, sym, ap, ap₂, ◌∙◌, subst}
use mathlib.Core.List.{List, [], ◌∷◌, map, Memᴰ}
use Prim.Native.Nat.{ℕ, zero, suc, ◌+◌, ◌-◌, ◌*◌, ◌/◌, ◌≤◌, ◌<◌}
use native.Mathlib.Nat.{mul-le-mul_left, mul-le-mul_right, add-mul, mul-add}
use native.Mathlib.Omega.{arith}
use Prim.Native.Nat.{min}
use lib.ListN.{length, get_or, take, drop, length-take, length-drop}
use lib.Seq.{get_or-take, get_or-drop, take-nil, drop-nil}
use Rattle.def.proofs.Words.{Alike}
use Rattle.laws.specs.Orders.{run}
use Rattle.def.specs.declared.Component.{Component}
use Rattle.split.specs.Edges.{Pass, vertical, horizontal, Edge, edge_list}
use Rattle.split.specs.Picture.{across}
use Rattle.df_rules.specs.Filter.{filtered, finished}
use Rattle.df_rules.specs.Places.{unit_side, unit_q, unit_p}
use Rattle.df_rules.specs.Window.{Samples}
use Rattle.df_rules.specs.Strength.{Over, Maps}
use Rattle.df_rules.proofs.Alikes.{Alikes, alikes_at, strength_alike}
use Rattle.df_rules.proofs.Planes.{run_same, finished_long, finished_small, finished_none}
use Rattle.bands_rules.specs.Bands.{edge_down, band_bytes, list_from, band_list, maps_part, places_of, in_part, called, called_all, joined}
use Rattle.band_rows.specs.Rows.{band_rows, rows_above, rows_before}
use Rattle.bands_rules.proofs.Down.{band}
use Rattle.bands_rules.proofs.Joined.{last_two, banded, bands_joined, bands_finished, bands_final, bands_below}
use Rattle.bands_rules.proofs.Lists.{BandDone, Lies, list_in}
use Rattle.bands_rules.proofs.Parts.{Keeps, finished_part, list_down}

pub above_before : (k : ℕ) → rows_above k + rows_before k ≡ 16 * k
above_before zero = refl
above_before (suc k) = omega arith

some_above_lem : (d : Pass) (k : ℕ) → Keeps d (rows_above k) (rows_before k)
some_above_lem vertical k = tt
some_above_lem horizontal zero = inr refl
some_above_lem horizontal (suc k) = inl (omega arith)

-- a plane that has samples has n of them
abbrev pub Held : ℕ → List ℕ → Type 0
Held n p = 1 ≤ length p → length p ≡ n

held_by : {n : ℕ} (p q : List ℕ) → length q ≡ length p → Held n p → Held n q
held_by p q e g l = e ∙ g (omega arith)

module _ (m : Maps) (t : List ℕ) (at : ℕ → ℕ) (c : Component) (halved : Bool) (s : List ℕ) (w h : ℕ) (pos : 1 ≤ w) (walked : (k : ℕ) → k < across h → BandDone s w h pos k) where
  -- a band's list by its place in what is lent, and by its place in the picture
  pub list_at : (d : Pass) (k : ℕ) → map (edge_down (rows_before k)) (list_from d halved (rows_above k) (band_bytes s w k) w (band_rows h k)) ≡ band_list d halved s w h k
  list_at d k =
      sym (list_down d halved (rows_above k) (rows_before k) (some_above_lem d k) (band_bytes s w k) w (band_rows h k))
      ∙ ap (λ (r : ℕ). list_from d halved r (band_bytes s w k) w (band_rows h k)) (above_before k)

  lent_in : (d : Pass) (k : ℕ) → k < across h → (e : Edge) → Memᴰ e (list_from d halved (rows_above k) (band_bytes s w k) w (band_rows h k)) → Lies d w 0 (rows_above k + band_rows h k) e
  lent_in d k l e i =
      let r = list_in d halved (rows_above k) (band_bytes s w k) w (band_rows h k) pos (walked k l) e i in
      record { inner = r.inner; column = r.column; above = omega arith; below = omega (arith, r.below) }

  room : (k : ℕ) → k < across h → places_of c w (rows_before k) + places_of c w (rows_above k + band_rows h k) ≤ places_of c w h
  room k l =
      let n = unit_side c in
      let a = rows_before k in
      let b = rows_above k + band_rows h k in
      let i = (band h k l).inside in
      let g : a + b ≤ h = omega (arith, above_before k) in
      omega (arith, add-mul (n * a) (n * b) (n * w), ap (λ (z : ℕ). z * (n * w)) (mul-add n a b), mul-le-mul_right {m = n * (a + b)} {n = n * h} (n * w) (mul-le-mul_left {m = a + b} {n = h} n g))

  -- one call
  called_some : (k : ℕ) → k < across h → (p : List ℕ) → length p ≡ places_of c w h
      → called m t at c halved s w h k p ≡ finished m t at c w (band_list vertical halved s w h k) (band_list horizontal halved s w h k) p
  unfolding called
  called_some k l p long =
      sym (finished_part m t at c w (rows_before k) (rows_above k + band_rows h k) _ _ (lent_in vertical k l) (lent_in horizontal k l) p (omega (arith, room k l)))
      ∙ ap₂ (λ (u v : List Edge). finished m t at c w u v p) (list_at vertical k) (list_at horizontal k)

  called_none : (k : ℕ) → called m t at c halved s w h k [] ≡ []
  unfolding called
  called_none k =
      let a = places_of c w (rows_before k) in
      let b = places_of c w (rows_above k + band_rows h k) in
      rw (
        take-nil {A = ℕ} a,
        drop-nil {A = ℕ} a,
        take-nil {A = ℕ} b,
        drop-nil {A = ℕ} b,
        finished_none (maps_part w (rows_before k) (rows_above k + band_rows h k) m) t at c w
            (list_from vertical halved (rows_above k) (band_bytes s w k) w (band_rows h k)) (list_from horizontal halved (rows_above k) (band_bytes s w k) w (band_rows h k)),
      ) refl

  pub called_finished : (k : ℕ) → k < across h → (p : List ℕ) → Held (places_of c w h) p
      → called m t at c halved s w h k p ≡ finished m t at c w (band_list vertical halved s w h k) (band_list horizontal halved s w h k) p
  called_finished k l [] g = called_none k ∙ sym (finished_none m t at c w (band_list vertical halved s w h k) (band_list horizontal halved s w h k))
  called_finished k l (x ∷ p) g = called_some k l (x ∷ p) (g (omega arith))

  pub calls_long : (n : ℕ) → n ≤ across h → (p : List ℕ) → Held (places_of c w h) p → length (called_all m t at c halved s w h n p) ≡ length p
  unfolding called_all
  calls_long zero l p g = refl
  calls_long (suc n) l p g =
      let q = called_all m t at c halved s w h n p in
      let i = calls_long n (omega arith) p g in
      ap length (called_finished n l q (held_by p q i g)) ∙ finished_long m t at c w _ _ q ∙ i

  calls_held : (n : ℕ) → n ≤ across h → (p : List ℕ) → Held (places_of c w h) p → Held (places_of c w h) (called_all m t at c halved s w h n p)
  calls_held n l p g = held_by p (called_all m t at c halved s w h n p) (calls_long n l p g) g

  pub calls_small : (n : ℕ) → n ≤ across h → (p : List ℕ) → Held (places_of c w h) p → Samples p → Samples (called_all m t at c halved s w h n p)
  unfolding called_all
  calls_small zero l p long g = g
  calls_small (suc n) l p long g =
      subst Samples (sym (called_finished n l (called_all m t at c halved s w h n p) (calls_held n (omega arith) p long))) (finished_small m t at c w _ _ _ (calls_small n (omega arith) p long g))

  calls_banded : (n : ℕ) → n ≤ across h → (p : List ℕ) → Held (places_of c w h) p → called_all m t at c halved s w h n p ≡ banded m t at c halved s w h pos walked n p
  unfolding called_all banded
  calls_banded zero l p long = refl
  calls_banded (suc n) l p long =
      called_finished n l (called_all m t at c halved s w h n p) (calls_held n (omega arith) p long)
      ∙ ap (finished m t at c w (band_list vertical halved s w h n) (band_list horizontal halved s w h n)) (calls_banded n (omega arith) p long)

  pub calls_joined : (n : ℕ) → n ≤ across h → (p : List ℕ) → Held (places_of c w h) p
      → called_all m t at c halved s w h n p ≡ finished m t at c w (joined (band_list vertical halved s w h) n) (joined (band_list horizontal halved s w h) n) p
  calls_joined n l p long = calls_banded n l p long ∙ bands_joined m t at c halved s w h pos walked n l p

  pub calls_finished : (p : List ℕ) → Held (places_of c w h) p
      → called_all m t at c halved s w h (across h) p ≡ finished m t at c w (edge_list vertical halved s w h) (edge_list horizontal halved s w h) p
  calls_finished p long = calls_banded (across h) (omega arith) p long ∙ bands_finished m t at c halved s w h pos walked p

  pub calls_final : (k : ℕ) → k ≤ across h → (p : List ℕ) → Held (places_of c w h) p → (i : ℕ) → i < last_two c w (16 * k)
      → get_or (called_all m t at c halved s w h k p) i 0 ≡ get_or (called_all m t at c halved s w h (across h) p) i 0
  calls_final k l p long i z =
      ap (λ (q : List ℕ). get_or q i 0) (calls_banded k l p long) ∙ bands_final m t at c halved s w h pos walked k l p i z ∙ ap (λ (q : List ℕ). get_or q i 0) (sym (calls_finished p long))

  -- what the bands above leave
  pub calls_below : (k : ℕ) → k ≤ across h → (p : List ℕ) → Held (places_of c w h) p → (i : ℕ) → places_of c w (16 * k) ≤ i → get_or (called_all m t at c halved s w h k p) i 0 ≡ get_or p i 0
  calls_below k l p long i z = ap (λ (q : List ℕ). get_or q i 0) (calls_banded k l p long) ∙ bands_below m t at c halved s w h pos walked k l p i z

-- ---- by words that differ in done alone

pub finished_alike : (over : Over) {l m : List ℕ} → Alikes l m → (t : List ℕ) (at : ℕ → ℕ) (c : Component) (w : ℕ) (ups levels : List Edge) (p : List ℕ)
    → finished (record { words = l; over = over }) t at c w ups levels p ≡ finished (record { words = m; over = over }) t at c w ups levels p
finished_alike over {l} {m} a t at c w ups levels p =
    run_same (record { words = l; over = over }) t at horizontal c w m t at levels (λ e i. strength_alike over t a at (unit_q w e) (unit_p horizontal w e)) _
    ∙ ap (run (filtered (record { words = m; over = over }) t at horizontal c w) levels)
    (run_same (record { words = l; over = over }) t at vertical c w m t at ups (λ e i. strength_alike over t a at (unit_q w e) (unit_p vertical w e)) p)

pub part_alikes : {l m : List ℕ} → Alikes l m → (k n : ℕ) → Alikes (take n (drop k l)) (take n (drop k m))
part_alikes {l} {m} a k n =
    let long : length (take n (drop k l)) ≡ length (take n (drop k m)) =
    length-take n (drop k l) ∙ ap (min n) (length-drop k l ∙ ap (λ (j : ℕ). j - k) a.long ∙ sym (length-drop k m)) ∙ sym (length-take n (drop k m)) in
    alikes_at _ _ long (λ i h.
    let g : i < n = omega (arith, length-take n (drop k m)) in
    subst (λ (x : ℕ). Alike x (get_or (take n (drop k m)) i 0)) (sym (get_or-take n (drop k l) i 0 g ∙ get_or-drop k l i 0))
    (subst (λ (x : ℕ). Alike (get_or l (k + i) 0) x) (sym (get_or-take n (drop k m) i 0 g ∙ get_or-drop k m i 0)) (a.same (k + i))))
