-- A leaf more: what holds of the samples of units that are done, whatever the others hold.
--     done_none    where no word is done
--     done_more    after a block, whose units are then told
--     every_place, whole_as    all places; where every unit is done
-- Assumes nothing.
use Prim.Native.Nat.{ℕ, ◌+◌, ◌-◌, ◌*◌, ◌/◌, ◌%◌, ◌≤◌, ◌<◌}
use mathlib.Core.Path.{◌≡◌, refl, sym, ◌∙◌, subst}
use mathlib.Core.Bool.{Bool, true, false}
use mathlib.Core.List.{List}
use native.Mathlib.Nat.{div-add-mod', mod-lt, div-lt_iff_lt-mul, mul_comm}
use native.Mathlib.Decide.{dec_lt}
use native.Mathlib.Omega.{arith}
use lib.Arith.{digits_div, digits_mod}
use lib.ListN.{length, get_or}
use Rattle.laws.specs.Bits.{field_of}
use Rattle.laws.specs.Index.{pick, tabulate}
use Rattle.laws.specs.Plane.{within, with_block}
use Rattle.laws.proofs.Places.{place_below}
use Rattle.laws.proofs.Planes.{within_yes, within_low, within_high, get_d_block}
use Rattle.laws.proofs.Tabulate.{get_d_tabulate}
use Rattle.def.specs.Blocks.{block_ok}
use Rattle.def.specs.Components.{scale_of, plane_length}
use Rattle.def.specs.Picture.{size_ok, unit_count}
use Rattle.def.specs.Word.{flag_at, done_of}
use Rattle.def.specs.declared.Component.{Component}
use Rattle.def.specs.declared.Component.TheVariants.{Luma, Chroma}
use Rattle.def.proofs.Blocks.{blocked}
use Rattle.def.proofs.Sizes.{sized}
use Rattle.nbr.specs.Gather.{unit_side}
use Rattle.def.specs.Units.{unit_at}
use Rattle.nbr.proofs.Sides.{four}
use Rattle.driver_rules.specs.Asked.{DoneAs}
use Rattle.driver_rules.specs.Steps.{with_units}

-- ---- one element of a plane or map in which a block is replaced

pub at_block : {A : Type 0} (d : A) (w h x y s t : ℕ) (f : ℕ → ℕ → A) (l : List A) → length l ≡ w * h → (c r : ℕ) → c < w → r < h
    → get_or (with_block d w x y s t f l) (r * w + c) d ≡ pick (within y t r) (pick (within x s c) (f (r - y) (c - x)) (get_or l (r * w + c) d)) (get_or l (r * w + c) d)
at_block d w h x y s t f l e c r p q =
    get_d_block d w x y s t f l (r * w + c) (place_below w h c r (length l) p q e)
    ∙ rw (digits_div r p, digits_mod r p)

-- ---- a sample is in a block exactly where its unit is

along : (p n q m k u : ℕ) → (k < p → u < q) → (p + n ≤ k → q + m ≤ u) → (p ≤ k → k < p + n → (q ≤ u) × (u < q + m)) → within p n k ≡ within q m u
along p n q m k u low high mid = go (dec_lt k p) (dec_lt k (p + n)) where
  go : Dec (k < p) → Dec (k < p + n) → within p n k ≡ within q m u
  go (yes i) j = within_low p n k i ∙ sym (within_low q m u (low i))
  go (no i) (yes j) = let o = mid (omega arith) j in within_yes p n k (omega arith) j ∙ sym (within_yes q m u o.0 o.1)
  go (no i) (no j) = within_high p n k (omega arith) ∙ sym (within_high q m u (high (omega arith)))

pub within_units : (c : Component) (p side k : ℕ) → p % 4 ≡ 0 → side % 4 ≡ 0 → within (p / scale_of c) (side / scale_of c) k ≡ within (p / 4) (side / 4) (k / unit_side c)
within_units Luma p side k e f = along _ _ _ _ k (k / 4) (λ i. omega arith) (λ i. omega arith) (λ i j. (omega arith, omega arith))
within_units Chroma p side k e f = along _ _ _ _ k (k / 2) (λ i. omega arith) (λ i. omega arith) (λ i j. (omega arith, omega arith))

pub units_below : (c : Component) (k n : ℕ) → n % 4 ≡ 0 → k < n / scale_of c → k / unit_side c < n / 4
units_below Luma k n e p = omega arith
units_below Chroma k n e p = omega arith

-- ---- no unit is done

not_done : done_of 0 ≡ false
unfolding flag_at field_of
not_done = refl

-- a unit of words that are all 0
pub none_done : (w h n u v : ℕ) → n ≡ unit_count w h → u < w / 4 → v < h / 4 → done_of (unit_at w (tabulate n (λ (k : ℕ). 0)) u v) ≡ true → ⊥
none_done w h n u v e p q d =
    let word : unit_at w (tabulate n (λ (k : ℕ). 0)) u v ≡ 0 = get_d_tabulate (λ (k : ℕ). 0) n _ 0 (place_below (w / 4) (h / 4) u v n p q e) in
    let f : done_of 0 ≡ true = rw word at d in
    let g : ◌≡◌ {A = ℕ} 0 1 = cc (not_done) in
    omega arith

pub done_none : (c : Component) (w h : ℕ) (R : ℕ → ℕ → Type 0) (plane other : List ℕ) (n : ℕ) → size_ok w h ≡ true → n ≡ unit_count w h → DoneAs c w h R plane other (tabulate n (λ (k : ℕ). 0))
done_none c w h R plane other n s e =
    record {
      each = λ x y p q d.
          let size = sized w h s in
          absurd (none_done w h n (x / unit_side c) (y / unit_side c) e (units_below c x w size.by_four p) (units_below c y h size.by_four_down q) d);
    }

-- ---- a block more

pub either : (R : ℕ → ℕ → Type 0) (b c : Bool) (new new' old old' word before : ℕ) → R new new' → (done_of before ≡ true → R old old')
    → done_of (pick b (pick c word before) before) ≡ true → R (pick b (pick c new old) old) (pick b (pick c new' old') old')
either R true true new new' old old' word before s k d = s
either R true false new new' old old' word before s k d = k d
either R false c new new' old old' word before s k d = k d

module _ (c : Component) (w h x y side : ℕ) (s : size_ok w h ≡ true) (b : block_ok w h x y side ≡ true) where
  -- the plane with the block's samples in it
  abbrev drawn : (ℕ → ℕ → ℕ) → List ℕ → List ℕ
  drawn f plane = with_block 0 (w / scale_of c) (x / scale_of c) (y / scale_of c) (side / scale_of c) (side / scale_of c) f plane

  pub done_more : (R : ℕ → ℕ → Type 0) (plane other words : List ℕ) → length plane ≡ plane_length c w h → length other ≡ plane_length c w h → length words ≡ unit_count w h
      → (f g : ℕ → ℕ → ℕ) → ((i j : ℕ) → R (f i j) (g i j)) → (word : ℕ) → DoneAs c w h R plane other words → DoneAs c w h R (drawn f plane) (drawn g other) (with_units w x y side word words)
  done_more R plane other words ep eo ew f g new word d = record { each = at } where
    sample : (f : ℕ → ℕ → ℕ) (l : List ℕ) → length l ≡ plane_length c w h → (i j : ℕ) → i < w / scale_of c → j < h / scale_of c → let old = get_or l (j * (w / scale_of c) + i) 0 in
        get_or (drawn f l) (j * (w / scale_of c) + i) 0 ≡ pick (within (y / scale_of c) (side / scale_of c) j)
        (pick (within (x / scale_of c) (side / scale_of c) i) (f (j - y / scale_of c) (i - x / scale_of c)) old) old
    sample f l e i j p q = at_block 0 (w / scale_of c) (h / scale_of c) (x / scale_of c) (y / scale_of c) (side / scale_of c) (side / scale_of c) f l e i j p q

    at : (i j : ℕ) → i < w / scale_of c → j < h / scale_of c → done_of (unit_at w (with_units w x y side word words) (i / unit_side c) (j / unit_side c)) ≡ true
        → R (get_or (drawn f plane) (j * (w / scale_of c) + i) 0) (get_or (drawn g other) (j * (w / scale_of c) + i) 0)
    at i j p q e =
        let size = sized w h s in
        let k = blocked w h x y side b in
        let u = units_below c i w size.by_four p in
        let v = units_below c j h size.by_four_down q in
        let told = at_block 0 (w / 4) (h / 4) (x / 4) (y / 4) (side / 4) (side / 4) (λ (r c : ℕ). word) words ew (i / unit_side c) (j / unit_side c) u v in
        let across = within_units c x side i (four x side k.side_ok k.column) k.by_four in
        let down = within_units c y side j (four y side k.side_ok k.row) k.by_four in
        let e' = rw (told, ← across, ← down) at e in
        rw (sample f plane ep i j p q, sample g other eo i j p q)
        (either R (within (y / scale_of c) (side / scale_of c) j) (within (x / scale_of c) (side / scale_of c) i) _ _ _ _ word _ (new _ _) (d.each i j p q) e')

-- ---- every unit is done

-- the places of n columns and m rows, one by one
pub every_place : (n m : ℕ) → 0 < n → (P : ℕ → Type 0) → ((c r : ℕ) → c < n → r < m → P (r * n + c)) → (k : ℕ) → k < n * m → P k
every_place n m some P each k p =
    let q : k < m * n = rw (mul_comm m n) (omega arith) in
    subst P (div-add-mod' k n) (each (k % n) (k / n) (mod-lt k some) ((div-lt_iff_lt-mul some).1 q))

wide : (c : Component) (n : ℕ) → 4 ≤ n → 0 < n / scale_of c
wide Luma n q = omega arith
wide Chroma n q = omega arith

pub whole_as : (c : Component) (w h : ℕ) (R : ℕ → ℕ → Type 0) (plane other words : List ℕ) → size_ok w h ≡ true → DoneAs c w h R plane other words
    → ((u v : ℕ) → u < w / 4 → v < h / 4 → done_of (unit_at w words u v) ≡ true) → (k : ℕ) → k < plane_length c w h → R (get_or plane k 0) (get_or other k 0)
whole_as c w h R plane other words s d all =
    let size = sized w h s in
    every_place (w / scale_of c) (h / scale_of c) (wide c w size.some_wide) (λ (k : ℕ). R (get_or plane k 0) (get_or other k 0))
    (λ x y p q. d.each x y p q (all _ _ (units_below c x w size.by_four p) (units_below c y h size.by_four_down q)))
