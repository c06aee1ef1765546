-- Marks by each way through their definition, their members, and how many there are.
--     marks_x, marks_y, marks_unit, marks_leaf, marks_cut, marks_bad
--     in_four, of_four    members of four parts
--     few    at most 85 in a root
-- Assumes nothing.
use mathlib.Core.List.Memᴰ
use mathlib.Core.List.{List, [], ◌∷◌, ◌++◌, Memᴰ}
use mathlib.Core.Logic.{◌⊎◌, inl, inr, ⊎_elim}
use mathlib.Core.Path.{◌≡◌, refl, ap, subst}
use Prim.Native.Nat.{ℕ, zero, suc, ◌+◌, ◌*◌, ◌/◌, ◌%◌, ◌^◌, ◌≤◌, ◌<◌}
use native.Mathlib.Omega.{arith}
use borrow.Author.Tests.{le-ltb, lt-ltb}
use lib.Dec.{ltb}
use lib.ListN.{length, length-append}
use Rattle.laws.specs.Index.{pick}
use Rattle.split.specs.Walk.{by_byte, place}
use Rattle.marks_rules.specs.Marks.{Mark, mark, four, marks, blocks_in}
use Rattle.marks_rules.proofs.Blocks.{part_x, part_y, by_start, by_byte_lem}

-- ---- marks, by each way through them

module _ (f : ℕ → ℕ → ℕ → ℕ) (w h : ℕ) where
  abbrev pub parts : (k x y : ℕ) → ℕ → List Mark
  parts k x y n = marks f w h k (part_x k x n) (part_y k y n)

  pub marks_x : (k x y : ℕ) → w ≤ x → marks f w h k x y ≡ []
  unfolding marks
  marks_x zero x y p = refl
  marks_x (suc k) x y p = simp (le-ltb x w p)

  pub marks_y : (k x y : ℕ) → x < w → h ≤ y → marks f w h k x y ≡ []
  unfolding marks
  marks_y zero x y p q = refl
  marks_y (suc k) x y p q = simp (lt-ltb x w p, le-ltb y h q)

  pub marks_unit : (x y : ℕ) → marks f w h 0 x y ≡ []
  unfolding marks
  marks_unit x y = refl

  pub marks_leaf : (k x y : ℕ) → x < w → y < h → f k x y ≡ 0 → marks f w h (suc k) x y ≡ mark (place k x y) 0 ∷ []
  unfolding marks by_byte
  marks_leaf k x y p q e = simp (lt-ltb x w p, lt-ltb y h q, e)

  pub marks_cut : (k x y : ℕ) → x < w → y < h → f k x y ≡ 1 → marks f w h (suc k) x y ≡ mark (place k x y) 1 ∷ four (parts k x y)
  unfolding marks by_byte
  marks_cut k x y p q e = simp (lt-ltb x w p, lt-ltb y h q, e)

  pub marks_bad : (k x y : ℕ) → x < w → y < h → 1 < f k x y → marks f w h (suc k) x y ≡ mark (place k x y) (f k x y) ∷ []
  unfolding marks by_byte
  marks_bad k x y p q l = simp (lt-ltb x w p, lt-ltb y h q) (ap (λ (r : List Mark). mark (place k x y) (f k x y) ∷ r) (go (f k x y) l)) where
    go : (b : ℕ) → 1 < b → by_byte b [] (four (parts k x y)) [] ≡ []
    go zero l = absurd (omega arith)
    go (suc zero) l = absurd (omega arith)
    go (suc (suc b)) l = refl

-- ---- members of four parts

module _ {A : Type 0} (g : ℕ → List A) (a : A) where
  pub in_four : (i : ℕ) → i < 4 → Memᴰ a (g i) → Memᴰ a (four g)
  in_four zero l m = Memᴰ.append_left _ m
  in_four (suc zero) l m = Memᴰ.append_right (g 0) (Memᴰ.append_left _ m)
  in_four (suc (suc zero)) l m = Memᴰ.append_right (g 0) (Memᴰ.append_right (g 1) (Memᴰ.append_left _ m))
  in_four (suc (suc (suc zero))) l m = Memᴰ.append_right (g 0) (Memᴰ.append_right (g 1) (Memᴰ.append_right (g 2) m))
  in_four (suc (suc (suc (suc i)))) l m = absurd (omega arith)

  pub of_four : (P : Type 0) → ((i : ℕ) → i < 4 → Memᴰ a (g i) → P) → Memᴰ a (four g) → P
  of_four P h m =
      ⊎_elim (h 0 (omega arith))
      (λ m₁. ⊎_elim (h 1 (omega arith)) (λ m₂. ⊎_elim (h 2 (omega arith)) (h 3 (omega arith)) (Memᴰ.append_cases (g 2) m₂)) (Memᴰ.append_cases (g 1) m₁))
      (Memᴰ.append_cases (g 0) m)

pub none : {P : Type 0} {m : Mark} {l : List Mark} → l ≡ [] → Memᴰ m l → P
none {m = m} e i = absurd (Memᴰ.not-nil (subst (Memᴰ m) e i))

-- ---- how many there are at most

module _ (f : ℕ → ℕ → ℕ → ℕ) (w h : ℕ) where
  pub few : (k x y : ℕ) → length (marks f w h k x y) ≤ blocks_in k
  unfolding blocks_in
  few zero x y = rw (marks_unit f w h x y) (omega arith)
  few (suc k) x y =
      let P = length (marks f w h (suc k) x y) ≤ 1 + 4 * blocks_in k in
      by_start w h x y P (λ p. rw (marks_x f w h (suc k) x y p) (omega arith)) (λ p q. rw (marks_y f w h (suc k) x y p q) (omega arith))
      (λ p q. by_byte_lem (f k x y) P
      (λ e. rw (marks_leaf f w h k x y p q e) (omega arith))
      (λ e.
      let g = parts f w h k x y in
      let m : (i : ℕ) → length (g i) ≤ blocks_in k = λ i. few k (part_x k x i) (part_y k y i) in
      let a = m 0 in
      let b = m 1 in
      let c = m 2 in
      let d = m 3 in
      let n₀ = length-append (g 0) (g 1 ++ (g 2 ++ g 3)) in
      let n₁ = length-append (g 1) (g 2 ++ g 3) in
      let n₂ = length-append (g 2) (g 3) in
      rw (marks_cut f w h k x y p q e) (omega arith))
      (λ l. rw (marks_bad f w h k x y p q l) (omega arith)))
