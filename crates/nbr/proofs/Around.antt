-- The three arms of a block are the samples around it.
--     left_is, corner_is, up_is    each sample of an arm, by its place around the block
--     left_within, corner_within, up_within    what is read of an arm lies within the plane and the words
-- Assumes nothing.
use Prim.Native.Nat.{ℕ, ◌+◌, ◌-◌, ◌*◌, ◌/◌, ◌%◌, ◌≤◌, ◌<◌}
use mathlib.Core.Path.{◌≡◌, refl, sym, ◌∙◌, subst}
use mathlib.Core.Bool.{Bool, true, false, ◌&&◌, ◌||◌, and-true}
use mathlib.Core.List.{List}
use native.Mathlib.Omega.{arith}
use native.Mathlib.Decide.{dec_lt}
use borrow.Author.Tests.{lt-ltb, le-ltb, eqb-true, eqb-false, eq-eqb, ne_eqb}
use lib.Dec.{ltb, eqb}
use lib.ListN.{length}
use Rattle.laws.proofs.Places.{place_below}
use Rattle.def.specs.Components.{scale_of}
use Rattle.def.specs.declared.Component.{Component}
use Rattle.def.proofs.Sizes.{sized}
use Rattle.def.proofs.Blocks.{blocked}
use Rattle.nbr.specs.declared.Arm.{Arm}
use Rattle.nbr.specs.Gather.{Around, unit_side, across, column, row, sample_at, near_at}
use Rattle.nbr.specs.Arms.{present_in, arm_at, Within, no_arm, left_arm, corner_arm, up_arm, BlockOf, Lent}
use Rattle.def.proofs.Units.{unit_below}
use Rattle.nbr.proofs.Sides.{Sided, four, scaled_le, sided, UnitSided, unit_sided}

-- ---- a block that passes, along both sides of the picture

pub record Beside (c : Component) (w h x y side : ℕ) : Type 0 where
  pub sideways : Sided c x w
  pub upright : Sided c y h
  pub by_four : side % 4 ≡ 0
  pub wide : w ≤ 4096
  pub high : h ≤ 4096
  pub low : side ≤ 64

pub beside : (c : Component) (w h x y side : ℕ) → BlockOf w h x y side → Beside c w h x y side
beside c w h x y side b =
    let s = sized w h b.size in
    let k = blocked w h x y side b.block in
    record {
      sideways = sided c x w (four x side k.side_ok k.column) s.by_four (omega arith);
      upright = sided c y h (four y side k.side_ok k.row) s.by_four_down (omega arith);
      by_four = k.by_four;
      wide = s.wide;
      high = s.high;
      low = k.most;
    }

-- the numbers that the code has of the block: its first unit (u, v), the plane's width, and its own column and row there
pub record Frame (w h u v a k r : ℕ) : Type 0 where
  pub wide : w ≤ 4096
  pub across : a ≤ 4096
  pub column : k ≤ 4096
  pub row : r ≤ 4096
  pub inside : u < w / 4
  pub inside_down : v < h / 4
  pub high : h ≤ 4096
  pub left : 0 < u → 0 < k
  pub above : 0 < v → 0 < r

pub framed : (c : Component) (w h x y side u v a k r : ℕ) → BlockOf w h x y side → u ≡ x / 4 → v ≡ y / 4 → a ≡ w / scale_of c → k ≡ x / scale_of c → r ≡ y / scale_of c → Frame w h u v a k r
framed c w h x y side u v a k r block e f g m n =
    let b = beside c w h x y side block in
    let s = b.sideways in
    let d = b.upright in
    record {
      wide = b.wide;
      across = omega (arith, scaled_le c w 4096 b.wide);
      column = omega (arith, scaled_le c w 4096 b.wide);
      row = omega (arith, scaled_le c h 4096 b.high);
      inside = omega arith;
      inside_down = omega arith;
      high = b.high;
      left = λ p. rw m (s.some (omega arith));
      above = λ p. rw n (d.some (omega arith));
    }

-- ---- the arms as the code makes them

pub left_none : (c : Component) (w h x y u : ℕ) → u ≡ x / 4 → u ≡ 0 → no_arm ≡ left_arm c w h x y
unfolding left_arm
left_none c w h x y u e p = rw (eq-eqb (x / 4) 0 (sym e ∙ p))

pub up_none : (c : Component) (w x y v : ℕ) → v ≡ y / 4 → v ≡ 0 → no_arm ≡ up_arm c w x y
unfolding up_arm
up_none c w x y v f p = rw (eq-eqb (y / 4) 0 (sym f ∙ p))

module _ (c : Component) (w x y u v : ℕ) (e : u ≡ x / 4) (f : v ≡ y / 4) where
  none_by : (edge : Bool) → eqb u 0 ≡ edge → (edge || eqb v 0) ≡ true → no_arm ≡ corner_arm c w x y
  unfolding corner_arm
  none_by true d p = rw (eq-eqb (x / 4) 0 (sym e ∙ eqb-true u 0 d))
  none_by false d p = rw (ne_eqb (x / 4) 0 (λ z. eqb-false u 0 d (e ∙ z)), eq-eqb (y / 4) 0 (sym f ∙ eqb-true v 0 p))

  pub corner_none : (eqb u 0 || eqb v 0) ≡ true → no_arm ≡ corner_arm c w x y
  corner_none p = none_by (eqb u 0) refl p

-- a block that has a corner lies at neither edge
pub record Cornered (u v : ℕ) : Type 0 where
  pub right : u ≡ 0 → ⊥
  pub down : v ≡ 0 → ⊥
  pub some_left : 0 < u
  pub some_above_lem : 0 < v

pub cornered : (u v : ℕ) → (eqb u 0 || eqb v 0) ≡ false → Cornered u v
cornered u v p =
    let q = eqb-false u 0 (neither_left (eqb u 0) (eqb v 0) p) in
    let r = eqb-false v 0 (neither_right (eqb u 0) (eqb v 0) p) in
    record { right = q; down = r; some_left = above_zero u q; some_above_lem = above_zero v r }
  where
    neither_left : (a b : Bool) → (a || b) ≡ false → a ≡ false
    neither_left true b e = e
    neither_left false b e = refl

    neither_right : (a b : Bool) → (a || b) ≡ false → b ≡ false
    neither_right true b e = cc
    neither_right false b e = e

    above_zero : (n : ℕ) → (n ≡ 0 → ⊥) → 0 < n
    above_zero n h = omega arith

module _ (c : Component) (w h x y u v a k r from word : ℕ) (e : u ≡ x / 4) (f : v ≡ y / 4) (g : a ≡ w / scale_of c) (m : k ≡ x / scale_of c) (n : r ≡ y / scale_of c) where
  pub left_made : (u ≡ 0 → ⊥) → from ≡ r * a + (k - 1) → word ≡ v * (w / 4) + (u - 1) → record { from = from; step = a; word = word; next = w / 4; there = h / 4 - v } ≡ left_arm c w h x y
  unfolding left_arm
  left_made p q s = rw (q, s, ne_eqb (x / 4) 0 (λ z. p (e ∙ z)), e, f, g, m, n)

  pub up_made : (v ≡ 0 → ⊥) → from ≡ (r - 1) * a + k → word ≡ (v - 1) * (w / 4) + u → record { from = from; step = 1; word = word; next = 1; there = w / 4 - u } ≡ up_arm c w x y
  unfolding up_arm
  up_made p q s = rw (q, s, ne_eqb (y / 4) 0 (λ z. p (f ∙ z)), e, f, g, m, n)

  pub corner_made : (u ≡ 0 → ⊥) → (v ≡ 0 → ⊥) → from ≡ (r - 1) * a + (k - 1) → word ≡ (v - 1) * (w / 4) + (u - 1)
      → record { from = from; step = 1; word = word; next = 1; there = 1 } ≡ corner_arm c w x y
  unfolding corner_arm
  corner_made p t q s = rw (q, s, ne_eqb (x / 4) 0 (λ z. p (e ∙ z)), ne_eqb (y / 4) 0 (λ z. t (f ∙ z)), e, f, g, m, n)

-- ---- an arm and the samples around a block, one place at a time

nothing : (n : ℕ) (constrained : Bool) (plane words : List ℕ) (k : ℕ) → arm_at no_arm n constrained plane words k ≡ 512
unfolding arm_at present_in
nothing n constrained plane words k = rw (le-ltb (k / n) 0 (omega arith))

module _ (i : Around) where
  -- the block's own arm sample, at column c, row r, in the unit at column u, row v
  meets :
      (a : Arm) (n k c r u v : ℕ)
      → c / unit_side i.component ≡ u → r / unit_side i.component ≡ v
      → ltb (k / n) a.there ≡ (ltb u (i.w / 4) && ltb v (i.h / 4))
      → a.word + k / n * a.next ≡ v * (i.w / 4) + u
      → a.from + k * a.step ≡ r * across i + c
      → arm_at a n i.constrained i.plane i.words k ≡ sample_at i c r
  unfolding arm_at present_in
  meets a n k c r u v e f g m s = rw (e, f, g, m, s)

  near_inside : (a b c r : ℕ) → 0 < column i + a → 0 < row i + b → column i + a - 1 ≡ c → row i + b - 1 ≡ r → near_at i a b ≡ sample_at i c r
  unfolding near_at
  near_inside a b c r p q e f = rw (lt-ltb 0 (column i + a) p, lt-ltb 0 (row i + b) q, e, f)

  near_left : (a b : ℕ) → column i + a ≡ 0 → near_at i a b ≡ 512
  unfolding near_at
  near_left a b e = rw (le-ltb 0 (column i + a) (omega arith))

  near_above : (a b : ℕ) → 0 < column i + a → row i + b ≡ 0 → near_at i a b ≡ 512
  unfolding near_at
  near_above a b p e = rw (lt-ltb 0 (column i + a) p, le-ltb 0 (row i + b) (omega arith))

-- the units that are left, counted from the block's and from the picture's start
left_over : (j p q : ℕ) → ltb j (q - p) ≡ ltb (p + j) q
left_over j p q = go (dec_lt (p + j) q) where
  go : Dec (p + j < q) → ltb j (q - p) ≡ ltb (p + j) q
  go (yes h) = lt-ltb j (q - p) (omega arith) ∙ sym (lt-ltb (p + j) q h)
  go (no h) = le-ltb j (q - p) (omega arith) ∙ sym (le-ltb (p + j) q (omega arith))

module _ (i : Around) (b : Beside i.component i.w i.h i.x i.y i.side) where
  abbrev arm : Arm → ℕ → ℕ → ℕ
  arm a n k = arm_at a n i.constrained i.plane i.words k

  abbrev u : ℕ
  u = unit_side i.component

  pub left_is : (k : ℕ) → arm (left_arm i.component i.w i.h i.x i.y) u k ≡ near_at i 0 (k + 1)
  unfolding left_arm
  left_is k = go (eqb (i.x / 4) 0) refl where
    go : (t : Bool) → eqb (i.x / 4) 0 ≡ t → arm (left_arm i.component i.w i.h i.x i.y) u k ≡ near_at i 0 (k + 1)
    go true e = rw e (nothing u i.constrained i.plane i.words k ∙ sym (near_left i 0 (k + 1) (omega (arith, b.sideways.none (eqb-true _ _ e)))))
    go false e =
        let p : 0 < i.x / 4 = omega (arith, eqb-false (i.x / 4) 0 e) in
        let s = b.sideways in
        let d = b.upright in
        rw e
        (meets i _ u k (column i - 1) (row i + k) (i.x / 4 - 1) (i.y / 4 + k / u) (s.before p) (d.along k)
        (left_over (k / u) (i.y / 4) (i.h / 4) ∙ rw (lt-ltb (i.x / 4 - 1) (i.w / 4) (omega arith)))
        (omega arith) (omega arith)
        ∙ sym (near_inside i 0 (k + 1) (column i - 1) (row i + k) (omega (arith, s.some p)) (omega arith) (omega arith) (omega arith)))

  pub up_is : (k : ℕ) → arm (up_arm i.component i.w i.x i.y) u k ≡ near_at i (k + 1) 0
  unfolding up_arm
  up_is k = go (eqb (i.y / 4) 0) refl where
    go : (t : Bool) → eqb (i.y / 4) 0 ≡ t → arm (up_arm i.component i.w i.x i.y) u k ≡ near_at i (k + 1) 0
    go true e = rw e (nothing u i.constrained i.plane i.words k ∙ sym (near_above i (k + 1) 0 (omega arith) (omega (arith, b.upright.none (eqb-true _ _ e)))))
    go false e =
        let p : 0 < i.y / 4 = omega (arith, eqb-false (i.y / 4) 0 e) in
        let s = b.sideways in
        let d = b.upright in
        rw e
        (meets i _ u k (column i + k) (row i - 1) (i.x / 4 + k / u) (i.y / 4 - 1) (s.along k) (d.before p)
        (left_over (k / u) (i.x / 4) (i.w / 4) ∙ sym (rw (lt-ltb (i.y / 4 - 1) (i.h / 4) (omega arith)) (and-true (ltb (i.x / 4 + k / u) (i.w / 4)))))
        (omega arith) (omega arith)
        ∙ sym (near_inside i (k + 1) 0 (column i + k) (row i - 1) (omega arith) (omega (arith, d.some p)) (omega arith) (omega arith)))

  pub corner_is : arm (corner_arm i.component i.w i.x i.y) 1 0 ≡ near_at i 0 0
  unfolding corner_arm
  corner_is = go (eqb (i.x / 4) 0) refl (eqb (i.y / 4) 0) refl where
    go : (t : Bool) → eqb (i.x / 4) 0 ≡ t → (v : Bool) → eqb (i.y / 4) 0 ≡ v → arm (corner_arm i.component i.w i.x i.y) 1 0 ≡ near_at i 0 0
    go true e v f = rw e (nothing 1 i.constrained i.plane i.words 0 ∙ sym (near_left i 0 0 (omega (arith, b.sideways.none (eqb-true _ _ e)))))
    go false e true f =
        let p : 0 < i.x / 4 = omega (arith, eqb-false (i.x / 4) 0 e) in
        rw (e, f) (nothing 1 i.constrained i.plane i.words 0 ∙ sym (near_above i 0 0 (omega (arith, b.sideways.some p)) (omega (arith, b.upright.none (eqb-true _ _ f)))))
    go false e false f =
        let p : 0 < i.x / 4 = omega (arith, eqb-false (i.x / 4) 0 e) in
        let q : 0 < i.y / 4 = omega (arith, eqb-false (i.y / 4) 0 f) in
        let s = b.sideways in
        let d = b.upright in
        rw (e, f)
        (meets i _ 1 0 (column i - 1) (row i - 1) (i.x / 4 - 1) (i.y / 4 - 1) (s.before p) (d.before q)
        (rw (lt-ltb (i.x / 4 - 1) (i.w / 4) (omega arith), lt-ltb (i.y / 4 - 1) (i.h / 4) (omega arith)))
        (omega arith) (omega arith)
        ∙ sym (near_inside i 0 0 (column i - 1) (row i - 1) (omega (arith, s.some p)) (omega (arith, d.some q)) (omega arith) (omega arith)))

-- ---- what is read of an arm

none_within : (n : ℕ) (plane words : List ℕ) → 0 < n → n ≤ 4 → Within no_arm n plane words
none_within n plane words p q =
    record { some = p; small = q; few = omega arith; words_in = λ i h. absurd (omega arith); samples_in_lem = λ k h. absurd (omega arith) }

module _ (c : Component) (w h x y side : ℕ) (plane words : List ℕ) (b : Beside c w h x y side) (l : Lent c w h plane words) where
  -- a unit and a sample of the picture, at the place where an arm has its word and itself
  word_in : (u v at : ℕ) → u < w / 4 → v < h / 4 → v * (w / 4) + u ≡ at → at < length words
  word_in u v at p q e = subst (λ (m : ℕ). m < length words) e (unit_below w h u v (length words) p q l.words_long)

  sample_in : (k r at : ℕ) → k < w / scale_of c → r < h / scale_of c → r * (w / scale_of c) + k ≡ at → at < length plane
  sample_in k r at p q e =
      subst (λ (m : ℕ). m < length plane) e (place_below (w / scale_of c) (h / scale_of c) k r (length plane) p q l.plane_long)

  unit : UnitSided c side
  unit = unit_sided c side b.by_four

  pub left_within : Within (left_arm c w h x y) (unit_side c) plane words
  unfolding left_arm
  left_within = go (eqb (x / 4) 0) refl where
    go : (t : Bool) → eqb (x / 4) 0 ≡ t → Within (left_arm c w h x y) (unit_side c) plane words
    go true e = rw e (none_within (unit_side c) plane words unit.least unit.most)
    go false e =
        let s = b.sideways in
        rw e
        (record {
          some = unit.least;
          small = unit.most;
          few = omega (arith, b.high);
          words_in = λ i p. word_in (x / 4 - 1) (y / 4 + i) _ (omega arith) (omega arith) (omega arith);
          samples_in_lem = λ k p. sample_in (x / scale_of c - 1) (y / scale_of c + k) _ (omega arith) (b.upright.room k p) (omega arith);
        })

  pub up_within : Within (up_arm c w x y) (unit_side c) plane words
  unfolding up_arm
  up_within = go (eqb (y / 4) 0) refl where
    go : (t : Bool) → eqb (y / 4) 0 ≡ t → Within (up_arm c w x y) (unit_side c) plane words
    go true e = rw e (none_within (unit_side c) plane words unit.least unit.most)
    go false e =
        let d = b.upright in
        rw e
        (record {
          some = unit.least;
          small = unit.most;
          few = omega (arith, b.wide);
          words_in = λ i p. word_in (x / 4 + i) (y / 4 - 1) _ (omega arith) (omega arith) (omega arith);
          samples_in_lem = λ k p. sample_in (x / scale_of c + k) (y / scale_of c - 1) _ (b.sideways.room k p) (omega arith) (omega arith);
        })

  pub corner_within : Within (corner_arm c w x y) 1 plane words
  unfolding corner_arm
  corner_within = go (eqb (x / 4) 0) refl (eqb (y / 4) 0) refl where
    go : (t : Bool) → eqb (x / 4) 0 ≡ t → (v : Bool) → eqb (y / 4) 0 ≡ v → Within (corner_arm c w x y) 1 plane words
    go true e v f = rw e (none_within 1 plane words (omega arith) (omega arith))
    go false e true f = rw (e, f) (none_within 1 plane words (omega arith) (omega arith))
    go false e false f =
        let s = b.sideways in
        let d = b.upright in
        rw (e, f)
        (record {
          some = omega arith;
          small = omega arith;
          few = omega arith;
          words_in = λ i p. word_in (x / 4 - 1) (y / 4 - 1) _ (omega arith) (omega arith) (omega arith);
          samples_in_lem = λ k p. sample_in (x / scale_of c - 1) (y / scale_of c - 1) _ (omega arith) (omega arith) (omega arith);
        })
