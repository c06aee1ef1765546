-- Bands filtered one after the other, each its vertical edges and then its horizontal ones, come to the planes of all vertical edges and then all horizontal
-- ones: the vertical edges of a band lie below all that the bands before it filter. And what a later band leaves of the rows above it.
--     bands_finished    the planes after the last band are those of the whole picture
--     bands_final    after band k the rows above its last two are those of the finished plane
-- Assumes nothing.
use mathlib.Core.Bool.{Bool, true, false}
use mathlib.Core.Path.{◌≡◌, refl, sym, ap, ap₂, ◌∙◌, subst}
use mathlib.Core.List.{List, [], ◌∷◌, ◌++◌, Memᴰ}
use Prim.Native.Nat.{ℕ, zero, suc, ◌+◌, ◌-◌, ◌*◌, ◌/◌, ◌≤◌, ◌<◌}
use native.Mathlib.Nat.{mul-le-mul_left, mul-le-mul_right, add-zero, add-suc}
use native.Mathlib.Omega.{arith}
use borrow.Author.Tests.{lt-ltb, le-ltb}
use lib.Dec.{ltb}
use lib.ListN.{length, get_or}
use Rattle.def.specs.declared.Component.{Component}
use Rattle.def.specs.declared.Component.TheVariants.{Luma, Chroma}
use Rattle.laws.specs.Index.{pick}
use Rattle.laws.specs.Orders.{run}
use Rattle.laws.proofs.Orders.{run_append}
use Rattle.line.specs.declared.Mask.{Mask}
use Rattle.split.specs.Edges.{Pass, vertical, horizontal, Edge, edge_list}
use Rattle.split.specs.Picture.{across}
use Rattle.split.specs.Rows.{cross_of, along_of}
use Rattle.df_rules.specs.Filter.{window, filtered, finished}
use Rattle.df_rules.specs.Places.{unit_side, step_across, step_along, line_start}
use Rattle.df_rules.specs.Strength.{Maps}
use Rattle.df_rules.proofs.Edges.{inside}
use Rattle.df_rules.proofs.Local.{Same, Local, Keyed, commute, window_local}
use Rattle.bands_rules.specs.Bands.{band_list, joined, places_of}
use Rattle.band_rows.specs.Rows.{band_rows}
use Rattle.bands_rules.proofs.Down.{band}
use Rattle.bands_rules.proofs.Lists.{BandDone, Lies, lists_joined, band_in, joined_in}

-- ---- steps that commute, run after run

module _ {E F A : Type 0} (f : E → A → A) (g : F → A → A) where
  one_past : (l : List E) (b : F) → ((a : E) → Memᴰ a l → (x : A) → f a (g b x) ≡ g b (f a x)) → (x : A) → run f l (g b x) ≡ g b (run f l x)
  unfolding run
  one_past [] b c x = refl
  one_past (a ∷ l) b c x = ap (run f l) (c a (Memᴰ.head refl) x) ∙ one_past l b (λ a₁ i. c a₁ (Memᴰ.tail i)) (f a x)

  pub runs_commute : (l : List E) (k : List F) → ((a : E) (b : F) → Memᴰ a l → Memᴰ b k → (x : A) → f a (g b x) ≡ g b (f a x)) → (x : A) → run f l (run g k x) ≡ run g k (run f l x)
  unfolding run
  runs_commute l [] c x = refl
  runs_commute l (b ∷ k) c x = runs_commute l k (λ a b₁ i j. c a b₁ i (Memᴰ.tail j)) (g b x) ∙ ap (run g k) (one_past l b (λ a i. c a b i (Memᴰ.head refl)) x)

-- ---- the places of an edge's window

two_samples : (c : Component) → 2 ≤ unit_side c
two_samples Luma = omega arith
two_samples Chroma = omega arith

module _ (c : Component) (w : ℕ) where
  -- sample j of line k
  abbrev sample_place : Pass → Edge → (k j : ℕ) → ℕ
  sample_place d e k j = let m = unit_side c in line_start d (m * w) (m * cross_of d e) (m * along_of d e) + k * step_along d (m * w) + j * step_across d (m * w)

  -- above row r of units
  high : (d : Pass) (r : ℕ) (e : Edge) → 0 < cross_of d e → e.x < w → e.y < r → (k j : ℕ) → k < unit_side c → j < 4 → sample_place d e k j < places_of c w r
  high d r e o x y k j hk hj =
      let m = unit_side c in
      let p = mul-le-mul_right {m = k} {n = m - 1} (step_along d (m * w)) (omega arith) in
      let q = mul-le-mul_right {m = j} {n = 3} (step_across d (m * w)) (omega arith) in
      go d o p q where
        go : (d : Pass) → 0 < cross_of d e → k * step_along d (unit_side c * w) ≤ (unit_side c - 1) * step_along d (unit_side c * w)
            → j * step_across d (unit_side c * w) ≤ 3 * step_across d (unit_side c * w) → sample_place d e k j < places_of c w r
        go vertical o p q = omega (arith, inside (unit_side c) w r (two_samples c) vertical e.x e.y o x y)
        go horizontal o p q = omega (arith, inside (unit_side c) w r (two_samples c) horizontal e.y e.x o y x)

  -- an upright edge, from row r of units on
  low : (r : ℕ) (e : Edge) → r ≤ e.y → (k j : ℕ) → places_of c w r ≤ sample_place vertical e k j
  low r e y k j =
      let m = unit_side c in
      omega (arith, mul-le-mul_right {m = m * r} {n = m * e.y} (m * w) (mul-le-mul_left {m = r} {n = e.y} m y))

  -- a level one, from two rows of samples above row r of units on
  abbrev pub last_two : ℕ → ℕ
  last_two r = (unit_side c * r - 2) * (unit_side c * w)

  near : (r : ℕ) (e : Edge) → r ≤ e.y → (k j : ℕ) → last_two r ≤ sample_place horizontal e k j
  near r e y k j =
      let m = unit_side c in
      let l = mul-le-mul_left {m = r} {n = e.y} m y in
      omega (arith, mul-le-mul_right {m = m * r - 2} {n = m * e.y - 2} (m * w) (omega arith))

  less : (r : ℕ) → last_two r ≤ places_of c w r
  less r = mul-le-mul_right (unit_side c * w) (omega arith)

  -- ---- a level edge above row r of units and an upright one below it

  abbrev side_of : (r i : ℕ) → ℕ
  side_of r i = pick (ltb i (places_of c w r)) 0 1

  upper : (r i : ℕ) → i < places_of c w r → side_of r i ≡ 0
  upper r i l = rw (lt-ltb i (places_of c w r) l)

  lower : (r i : ℕ) → places_of c w r ≤ i → side_of r i ≡ 1
  lower r i l = rw (le-ltb i (places_of c w r) l)

  pub swap : (r end st st₁ : ℕ) (m m₁ : Mask) (e f : Edge) → Lies horizontal w 0 r e → Lies vertical w r end f
      → (xs : List ℕ) → window m₁ vertical c w st₁ f (window m horizontal c w st e xs) ≡ window m horizontal c w st e (window m₁ vertical c w st₁ f xs)
  swap r end st st₁ m m₁ e f a b =
      commute (side_of r) 1 0 (window m₁ vertical c w st₁ f) (window m horizontal c w st e)
      (window_local (Keyed (side_of r) 1) m₁ st₁ _ _ _ _ (λ k j hk hj. lower r _ (low r f b.above k j)))
      (window_local (Keyed (side_of r) 0) m st _ _ _ _ (λ k j hk hj. upper r _ (high horizontal r e a.inner a.column a.below k j hk hj)))
      (λ z. omega arith)

-- ---- what a run leaves

run_leaves : {E : Type 0} (P : ℕ → Type 0) (f : E → List ℕ → List ℕ) (l : List E) → ((e : E) → Memᴰ e l → Local P (f e)) → (xs : List ℕ) → Same (λ i. P i → ⊥) (run f l xs) xs
unfolding run
run_leaves P f [] h xs = record { long = refl; at = λ i n. refl }
run_leaves P f (e ∷ l) h xs =
    let r = run_leaves P f l (λ g i. h g (Memᴰ.tail i)) (f e xs) in
    let o = (h e (Memᴰ.head refl)).leaves xs in
    record { long = r.long ∙ o.long; at = λ i n. r.at i n ∙ o.at i n }

-- ---- the bands of a picture, one after the other

module _ (m : Maps) (t : List ℕ) (at : ℕ → ℕ) (c : Component) (halved : Bool) (s : List ℕ) (w h : ℕ) (pos : 1 ≤ w) (walked : (k : ℕ) → k < across h → BandDone s w h pos k) where
  abbrev ups : List Edge → List ℕ → List ℕ
  ups l p = run (filtered m t at vertical c w) l p

  abbrev levels : List Edge → List ℕ → List ℕ
  levels l p = run (filtered m t at horizontal c w) l p

  abbrev ver : ℕ → List Edge
  ver k = band_list vertical halved s w h k

  abbrev hor : ℕ → List Edge
  hor k = band_list horizontal halved s w h k

  -- the plane after the first n bands, each filtered in the whole plane
  unfoldable pub banded : ℕ → List ℕ → List ℕ
  banded zero p = p
  banded (suc n) p = finished m t at c w (ver n) (hor n) (banded n p)

  pub bands_joined : (n : ℕ) → n ≤ across h → (p : List ℕ) → banded n p ≡ finished m t at c w (joined ver n) (joined hor n) p
  unfolding banded joined run
  bands_joined zero l p = refl
  bands_joined (suc n) l p =
      ap (λ (q : List ℕ). levels (hor n) (ups (ver n) q)) (bands_joined n (omega arith) p)
      ∙ ap (levels (hor n)) (runs_commute (filtered m t at vertical c w) (filtered m t at horizontal c w) (ver n) (joined hor n)
      (λ f e i j. swap c w (16 * n) _ _ _ _ _ e f (joined_in halved s w h pos walked horizontal n (omega arith) e j) (band_in halved s w h pos walked vertical n l f i))
      (ups (joined ver n) p))
      ∙ sym (run_append (filtered m t at horizontal c w) (joined hor n) (hor n) (ups (ver n) (ups (joined ver n) p)))
      ∙ ap (levels (joined hor n ++ hor n)) (sym (run_append (filtered m t at vertical c w) (joined ver n) (ver n) p))

  pub bands_finished : (p : List ℕ) → banded (across h) p ≡ finished m t at c w (edge_list vertical halved s w h) (edge_list horizontal halved s w h) p
  bands_finished p = bands_joined (across h) (omega arith) p
      ∙ ap₂ (λ (u l : List Edge). finished m t at c w u l p) (sym (lists_joined vertical halved s w h pos)) (sym (lists_joined horizontal halved s w h pos))

  -- ---- what is final

  -- the band below row r of units, and all after it, leave the samples above its last two rows
  one_final : (k r : ℕ) → k < across h → r ≤ 16 * k → (p : List ℕ) (i : ℕ) → i < last_two c w r → get_or (finished m t at c w (ver k) (hor k) p) i 0 ≡ get_or p i 0
  one_final k r l g p i z =
      let b : (j : ℕ) → Type 0 = λ j. last_two c w r ≤ j in
      (run_leaves b (filtered m t at horizontal c w) (hor k)
      (λ e n. let q = (band_in halved s w h pos walked horizontal k l e n).above in window_local b _ _ _ _ _ _ (λ a j ha hj. near c w r e (omega arith) a j)) (ups (ver k) p)).at i (λ n. omega arith)
      ∙ (run_leaves b (filtered m t at vertical c w) (ver k)
      (λ e n. let q = (band_in halved s w h pos walked vertical k l e n).above in
      window_local b _ _ _ _ _ _ (λ a j ha hj. omega (arith, low c w r e (omega arith) a j, less c w r))) p).at i (λ n. omega arith)

  more_final : (k n : ℕ) → k + n ≤ across h → (p : List ℕ) (i : ℕ) → i < last_two c w (16 * k) → get_or (banded (k + n) p) i 0 ≡ get_or (banded k p) i 0
  unfolding banded
  more_final k zero l p i z = ap (λ (j : ℕ). get_or (banded j p) i 0) (add-zero k)
  more_final k (suc n) l p i z =
      let a = add-suc k n in
      ap (λ (j : ℕ). get_or (banded j p) i 0) a ∙ one_final (k + n) (16 * k) (omega arith) (omega arith) (banded (k + n) p) i z ∙ more_final k n (omega arith) p i z

  -- after the first k bands, what lies above the last two rows of samples
  pub bands_final : (k : ℕ) → k ≤ across h → (p : List ℕ) (i : ℕ) → i < last_two c w (16 * k)
      → get_or (banded k p) i 0 ≡ get_or (finished m t at c w (edge_list vertical halved s w h) (edge_list horizontal halved s w h) p) i 0
  bands_final k l p i z =
      let e : k + (across h - k) ≡ across h = omega arith in
      sym (more_final k (across h - k) (omega arith) p i z) ∙ ap (λ (j : ℕ). get_or (banded j p) i 0) e ∙ ap (λ (q : List ℕ). get_or q i 0) (bands_finished p)

  -- ---- what the bands above leave

  pub bands_below : (k : ℕ) → k ≤ across h → (p : List ℕ) (i : ℕ) → places_of c w (16 * k) ≤ i → get_or (banded k p) i 0 ≡ get_or p i 0
  unfolding banded
  bands_below zero l p i z = refl
  bands_below (suc k) l p i z =
      let b : (j : ℕ) → Type 0 = λ j. j < places_of c w (16 * suc k) in
      let few = (band h k l).few in
      let less-rows = mul-le-mul_right {m = unit_side c * (16 * k)} {n = unit_side c * (16 * suc k)} (unit_side c * w) (mul-le-mul_left {m = 16 * k} {n = 16 * suc k} (unit_side c) (omega arith)) in
      (run_leaves b (filtered m t at horizontal c w) (hor k)
      (λ e n. let q = band_in halved s w h pos walked horizontal k l e n in let y = q.below in
      window_local b _ _ _ _ _ _ (λ a j ha hj. high c w horizontal (16 * suc k) e q.inner q.column (omega arith) a j ha hj)) (ups (ver k) (banded k p))).at i (λ n. omega arith)
      ∙ (run_leaves b (filtered m t at vertical c w) (ver k)
      (λ e n. let q = band_in halved s w h pos walked vertical k l e n in let y = q.below in
      window_local b _ _ _ _ _ _ (λ a j ha hj. high c w vertical (16 * suc k) e q.inner q.column (omega arith) a j ha hj)) (banded k p)).at i (λ n. omega arith)
      ∙ bands_below k (omega arith) p i (omega arith)
