-- The walk of a band by itself is the walk of its root row in the picture, further up.
-- Assumes nothing.
use Rattle.std.specs.Prelude.{Ok, Err}
use mathlib.Core.Bool.{Bool, true, false}
use mathlib.Core.Path.{◌≡◌, refl, sym, ap, ap₂, ◌∙◌, subst}
use mathlib.Core.List.{List, [], ◌∷◌, ◌++◌, map, append_assoc, append-nil}
use Prim.Native.Nat.{ℕ, zero, suc, ◌+◌, ◌-◌, ◌*◌, ◌/◌, ◌%◌, ◌^◌, ◌≤◌, ◌<◌}
use native.Mathlib.Nat.{two-pow-succ, mul-le-mul_right, one-mul, add-zero, add-suc, zero-add, suc-add, suc-mul, le_of_suc-le-suc, not-suc-le-zero, mul-one}
use native.Mathlib.Omega.{arith}
use borrow.Author.Tests.{ltb-true, ltb-false, lt-ltb, le-ltb, leb-true, leb-false, le-leb, lt-leb}
use lib.Arith.{digits_div, digits_mod, digits_lt}
use lib.Dec.{ltb, leb}
use lib.ListN.{get_or, take, drop, length}
use lib.Pow.{pow_pos}
use lib.Seq.{take-take, drop-drop}
use Rattle.def.specs.Answers.{Answer}
use Rattle.def.specs.declared.Refusal.TheVariants.{Split, Leaf as PastPicture}
use Rattle.laws.specs.Call.{unless}
use Rattle.laws.specs.Index.{pick}
use Rattle.split.specs.Picture.{across, roots, root_bytes, root_x, root_y, root_walk, root_leaves, leaves_of, all_leaves, picture_walk}
use Rattle.split.specs.Walk.{Leaf, leaf, Walk, met, nothing, onward, and_then, in_turn, leaf_walk, by_byte, place, part, walk}
use Rattle.split.proofs.Induct.{test}
use Rattle.split.specs.RootCall.{leaf_down}
use Rattle.bands_rules.specs.Bands.{walk_down, band_bytes}
use Rattle.band_rows.specs.Rows.{band_rows}

pub map_append : {A B : Type 0} (f : A → B) (l m : List A) → map f (l ++ m) ≡ map f l ++ map f m
map_append f [] m = refl
map_append {B = B} f (a ∷ l) m = ap (λ (r : List B). f a ∷ r) (map_append f l m)

-- ---- the pieces of a walk

-- n of the picture's h rows of units are the band's that starts at row t
pub record Fit (h t n : ℕ) : Type 0 where
  pub whole : t % 16 ≡ 0
  pub starts : (y : ℕ) → y < 16 → ltb (y + t) h ≡ ltb y n
  pub ends : (y : ℕ) → y ≤ 16 → leb (y + t) h ≡ leb y n

module _ (t : ℕ) where
  down_pick : (b : Bool) (u v : Walk) → pick b (walk_down t u) (walk_down t v) ≡ walk_down t (pick b u v)
  down_pick true u v = refl
  down_pick false u v = refl

  down_unless : (b : Bool) (u v : Walk) → unless b (walk_down t u) (walk_down t v) ≡ walk_down t (unless b u v)
  down_unless true u v = refl
  down_unless false u v = refl

  down_byte : (b : ℕ) (l f e : Walk) → by_byte b (walk_down t l) (walk_down t f) (walk_down t e) ≡ walk_down t (by_byte b l f e)
  unfolding by_byte
  down_byte zero l f e = refl
  down_byte (suc zero) l f e = refl
  down_byte (suc (suc b)) l f e = refl

  down_onward : (a : Answer) (l : List Leaf) (v : Walk) → onward a (map (leaf_down t) l) (walk_down t v) ≡ walk_down t (onward a l v)
  unfolding onward
  down_onward (Ok _) l v = ap (λ (r : List Leaf). met r v.answer) (sym (map_append (leaf_down t) l v.list))
  down_onward (Err r) l v = refl

  down_turn : (f g : ℕ → Walk) (n : ℕ) → ((i : ℕ) → i < n → f i ≡ walk_down t (g i)) → in_turn f n ≡ walk_down t (in_turn g n)
  unfolding in_turn
  down_turn f g zero h = refl
  down_turn f g (suc n) h =
      ap₂ and_then (down_turn f g n (λ i l. h i (omega arith))) (h n (omega arith)) ∙ down_onward (in_turn g n).answer (in_turn g n).list (g n)

-- ---- a block of the band's root, of side 2 ^ k at (x, y), y counted in the root

module _ (w h n t : ℕ) (fit : Fit h t n) where
  leaf_down_lem : (m x y : ℕ) → y + m ≤ 16 → leaf_walk w h m x (y + t) ≡ walk_down t (leaf_walk w n m x y)
  unfolding leaf_walk
  leaf_down_lem m x y l =
      let e : y + t + m ≡ y + m + t = omega arith in
      let b : leb (y + t + m) h ≡ leb (y + m) n = ap (λ (z : ℕ). leb z h) e ∙ fit.ends (y + m) l in
      ap (λ (q : Bool). unless (leb (x + m) w) (met [] (Err PastPicture)) (unless q (met [] (Err PastPicture)) (met (leaf x (y + t) m ∷ []) (Ok tt)))) b
      ∙ ap (λ (v : Walk). unless (leb (x + m) w) (met [] (Err PastPicture)) v) (down_unless t (leb (y + m) n) (met [] (Err PastPicture)) (met (leaf x y m ∷ []) (Ok tt)))
      ∙ down_unless t (leb (x + m) w) (met [] (Err PastPicture)) (unless (leb (y + m) n) (met [] (Err PastPicture)) (met (leaf x y m ∷ []) (Ok tt)))

  -- what is tested before a block is walked
  inside_down : (x y : ℕ) (u v : Walk) → y < 16 → u ≡ walk_down t v → pick (ltb x w) (pick (ltb (y + t) h) u nothing) nothing ≡ walk_down t (pick (ltb x w) (pick (ltb y n) v nothing) nothing)
  inside_down x y u v l e =
      (λ i. pick (ltb x w) (pick (fit.starts y l i) (e i) nothing) nothing)
      ∙ ap (λ (z : Walk). pick (ltb x w) z nothing) (down_pick t (ltb y n) v nothing)
      ∙ down_pick t (ltb x w) (pick (ltb y n) v nothing) nothing

  pub walk_down_lem : (s : List ℕ) (k x y : ℕ) → y + 2 ^ k ≤ 16 → walk s w h k x (y + t) ≡ walk_down t (walk s w n k x y)
  unfolding walk
  walk_down_lem s zero x y l = inside_down x y _ _ (omega arith) (leaf_down_lem 1 x y l)
  walk_down_lem s (suc k) x y l =
      let d = two-pow-succ k in
      let o = pow_pos k in
      let whole = fit.whole in
      let half = 2 ^ k in
      let q : place k x (y + t) ≡ place k x y = omega arith in
      let parts : in_turn (part (walk s w h k) half x (y + t)) 4 ≡ walk_down t (in_turn (part (walk s w n k) half x y) 4) =
      down_turn t _ _ 4 (λ i g.
      let a : i / 2 * half ≤ 1 * half = mul-le-mul_right half (omega arith) in
      let b = one-mul half in
      let c : y + t + i / 2 * half ≡ y + i / 2 * half + t = omega arith in
      ap (walk s w h k (x + i % 2 * half)) c ∙ walk_down_lem s k (x + i % 2 * half) (y + i / 2 * half) (omega arith)) in
      let b = get_or s (place k x y) 0 in
      let whole_block = leaf_walk w n (2 ^ suc k) x y in
      let four = in_turn (part (walk s w n k) half x y) 4 in
      inside_down x y _ (by_byte b whole_block four (met [] (Err Split))) (omega arith)
      ((λ j. by_byte (get_or s (q j) 0) (leaf_down_lem (2 ^ suc k) x y l j) (parts j) (met [] (Err Split))) ∙ down_byte t b whole_block four (met [] (Err Split)))

-- ---- the rows of a band

pub record Band (h k n : ℕ) : Type 0 where
  pub some : 1 ≤ n
  pub few : n ≤ 16
  pub inside : n + 16 * k ≤ h
  pub reaches : n < 16 → n + 16 * k ≡ h

pub band : (h k : ℕ) → k < across h → Band h k (band_rows h k)
unfolding band_rows
band h k l = test (leb (16 * k + 16) h)
    (λ t. let g = leb-true (16 * k + 16) h t in rw t (record { some = omega arith; few = omega arith; inside = omega arith; reaches = λ z. omega arith }))
    (λ t. let g = leb-false (16 * k + 16) h t in rw t (record { some = omega arith; few = omega arith; inside = omega arith; reaches = λ z. omega arith }))

same_test : (b c : Bool) → (b ≡ true → c ≡ true) → (c ≡ true → b ≡ true) → b ≡ c
same_test true c f g = sym (f refl)
same_test false true f g = g refl
same_test false false f g = refl

pub fits : {h k n : ℕ} → Band h k n → Fit h (16 * k) n
fits {h} {k} {n} b =
    let few = b.few in
    let inside = b.inside in
    record {
      whole = omega arith;
      starts = λ y l. same_test _ _
          (λ t. let p = ltb-true (y + 16 * k) h t in lt-ltb y n (test (ltb n 16) (λ u. let e = b.reaches (ltb-true n 16 u) in omega arith) (λ u. let e = ltb-false n 16 u in omega arith)))
          (λ t. let p = ltb-true y n t in lt-ltb (y + 16 * k) h (omega arith));
      ends = λ y l. same_test _ _
          (λ t. let p = leb-true (y + 16 * k) h t in le-leb y n (test (ltb n 16) (λ u. let e = b.reaches (ltb-true n 16 u) in omega arith) (λ u. let e = ltb-false n 16 u in omega arith)))
          (λ t. let p = leb-true y n t in le-leb (y + 16 * k) h (omega arith));
    }

-- ---- the roots of a band

take_in : {A : Type 0} (m a b : ℕ) (l : List A) → a + m ≤ b → take m (drop a (take b l)) ≡ take m (drop a l)
take_in m zero b l g = take-take m b l (omega arith)
take_in m (suc a) zero l g = absurd (omega arith)
take_in m (suc a) (suc b) [] g = refl
take_in m (suc a) (suc b) (x ∷ l) g = take_in m a b l (omega arith)

module _ (s : List ℕ) (w h k n : ℕ) (pos : 1 ≤ w) (b : Band h k n) where
  own_bytes : (j : ℕ) → j < across w → root_bytes (band_bytes s w k) j ≡ root_bytes s (k * across w + j)
  own_bytes j l =
      let e : 1024 * (k * across w) + 1024 * j ≡ 1024 * (k * across w + j) = omega arith in
      take_in 1024 (1024 * j) (1024 * across w) (drop (1024 * (k * across w)) s) (omega arith)
      ∙ ap (take 1024) (drop-drop (1024 * j) (1024 * (k * across w)) s ∙ ap (λ (i : ℕ). drop i s) e)

  pub root_down : (j : ℕ) → j < across w → root_walk s w h (k * across w + j) ≡ walk_down (16 * k) (root_walk (band_bytes s w k) w n j)
  root_down j l =
      let c : (k * across w + j) % across w ≡ j = digits_mod k l in
      let r : (k * across w + j) / across w ≡ k = digits_div k l in
      let c₀ : (0 * across w + j) % across w ≡ j = digits_mod 0 l in
      let r₀ : (0 * across w + j) / across w ≡ 0 = digits_div 0 l in
      let z : 0 * across w + j ≡ j = omega arith in
      let c₁ : j % across w ≡ j = ap (λ (i : ℕ). i % across w) (sym z) ∙ c₀ in
      let r₁ : j / across w ≡ 0 = ap (λ (i : ℕ). i / across w) (sym z) ∙ r₀ in
      let y : 16 * ((k * across w + j) / across w) ≡ 16 * (j / across w) + 16 * k = omega (arith, r, r₁) in
      let x : 16 * ((k * across w + j) % across w) ≡ 16 * (j % across w) = omega (arith, c, c₁) in
      (λ i. walk (sym (own_bytes j l) i) w h 4 (x i) (y i))
      ∙ walk_down_lem w h n (16 * k) (fits b) (root_bytes (band_bytes s w k) j) 4 (16 * (j % across w)) (16 * (j / across w)) (omega (arith, r₁))

  pub leaves_down_lem : (j : ℕ) → j ≤ across w → leaves_of s w h (k * across w + j) ≡ leaves_of s w h (k * across w) ++ map (leaf_down (16 * k)) (leaves_of (band_bytes s w k) w n j)
  unfolding leaves_of
  leaves_down_lem zero l = ap (leaves_of s w h) (add-zero (k * across w)) ∙ sym (append-nil _)
  leaves_down_lem (suc j) l =
      ap (leaves_of s w h) (add-suc (k * across w) j)
      ∙ ap₂ ◌++◌ (leaves_down_lem j (omega arith)) (ap (λ (v : Walk). v.list) (root_down j l))
      ∙ append_assoc (leaves_of s w h (k * across w)) _ _
      ∙ ap (λ (r : List Leaf). leaves_of s w h (k * across w) ++ r) (sym (map_append (leaf_down (16 * k)) (leaves_of (band_bytes s w k) w n j) (root_leaves (band_bytes s w k) w n j)))

  one_row : roots w n ≡ across w
  one_row = let some = b.some in let few = b.few in let e : across n ≡ 1 = omega arith in ap (λ (i : ℕ). across w * i) e ∙ mul-one (across w)

  -- the leaves of one band more
  pub band_leaves : leaves_of s w h (suc k * across w) ≡ leaves_of s w h (k * across w) ++ map (leaf_down (16 * k)) (all_leaves (band_bytes s w k) w n)
  band_leaves =
      ap (leaves_of s w h) (suc-mul k (across w))
      ∙ leaves_down_lem (across w) (omega arith)
      ∙ ap (λ (i : ℕ). leaves_of s w h (k * across w) ++ map (leaf_down (16 * k)) (leaves_of (band_bytes s w k) w n i)) (sym one_row)
