-- Induction over a walk that is not refused: what holds of a block that is skipped, of a unit, of a leaf, and of a block that is cut
-- if it holds of the four parts, holds of each block.
-- Assumes nothing.
use Rattle.std.specs.Prelude.{Ok}
use mathlib.Core.Bool.{Bool, true, false}
use mathlib.Core.Logic.{◌⊎◌, inl, inr}
use mathlib.Core.List.{List, [], ◌∷◌, ◌++◌}
use mathlib.Core.Path.{◌≡◌, refl, sym, subst}
use Prim.Native.Nat.{ℕ, zero, suc, ◌+◌, ◌^◌, ◌≤◌, ◌<◌}
use native.Mathlib.Omega.{arith}
use borrow.Author.Tests.{ltb-true, ltb-false, leb-true, leb-false}
use lib.Dec.{ltb, leb}
use lib.ListN.{get_or}
use Rattle.split.specs.Walk.{Leaf, leaf, Walk, in_turn, leaf_walk, place, part, walk}
use Rattle.split.proofs.Walks.{not_done, four, walk_x, walk_y, walk_unit, walk_leaf, walk_cut, walk_bad, leaf_in_lem, leaf_x, leaf_y, part₀, part₁, part₂, part₃}

pub record Cases (s : List ℕ) (w h : ℕ) (P : ℕ → ℕ → ℕ → List Leaf → Type 0) : Type 0 where
  pub skip : (k x y : ℕ) → (w ≤ x) ⊎ (h ≤ y) → P k x y []
  pub unit : (x y : ℕ) → x + 1 ≤ w → y + 1 ≤ h → P 0 x y (leaf x y 1 ∷ [])
  pub whole : (k x y : ℕ) → get_or s (place k x y) 0 ≡ 0 → x + 2 ^ suc k ≤ w → y + 2 ^ suc k ≤ h → P (suc k) x y (leaf x y (2 ^ suc k) ∷ [])
  pub cut : (k x y : ℕ) (l₀ l₁ l₂ l₃ : List Leaf) → get_or s (place k x y) 0 ≡ 1
      → P k x y l₀ → P k (x + 2 ^ k) y l₁ → P k x (y + 2 ^ k) l₂ → P k (x + 2 ^ k) (y + 2 ^ k) l₃ → P (suc k) x y (l₀ ++ (l₁ ++ (l₂ ++ l₃)))

abbrev pub test : {A : Type 0} (b : Bool) → (b ≡ true → A) → (b ≡ false → A) → A
test true f g = f refl
test false f g = g refl

module _ (s : List ℕ) (w h : ℕ) (P : ℕ → ℕ → ℕ → List Leaf → Type 0) (cases : Cases s w h P) where
  -- what the goal is at a walk
  abbrev Good : ℕ → ℕ → ℕ → Walk → Type 0
  Good k x y v = v.answer ≡ Ok tt → P k x y v.list

  at_walk : (k x y : ℕ) {v : Walk} → walk s w h k x y ≡ v → Good k x y v → Good k x y (walk s w h k x y)
  at_walk k x y {v} e g = subst (Good k x y) (sym e) g

  a_leaf : (k x y n : ℕ) → (x + n ≤ w → y + n ≤ h → P k x y (leaf x y n ∷ [])) → Good k x y (leaf_walk w h n x y)
  a_leaf k x y n f =
      test (leb (x + n) w)
      (λ p. test (leb (y + n) h)
      (λ q. subst (Good k x y) (sym (leaf_in_lem w h n x y (leb-true _ _ p) (leb-true _ _ q))) (λ z. f (leb-true _ _ p) (leb-true _ _ q)))
      (λ q. subst (Good k x y) (sym (leaf_y w h n x y (leb-true _ _ p) (leb-false _ _ q))) (λ z. absurd (not_done _ z))))
      (λ p. subst (Good k x y) (sym (leaf_x w h n x y (leb-false _ _ p))) (λ z. absurd (not_done _ z)))

  inside : (k x y : ℕ) → (x < w → y < h → Good k x y (walk s w h k x y)) → Good k x y (walk s w h k x y)
  inside k x y f =
      test (ltb x w)
      (λ p. test (ltb y h)
      (λ q. f (ltb-true _ _ p) (ltb-true _ _ q))
      (λ q. at_walk k x y (walk_y s w h k x y (ltb-true _ _ p) (ltb-false _ _ q)) (λ z. cases.skip k x y (inr (ltb-false _ _ q)))))
      (λ p. at_walk k x y (walk_x s w h k x y (ltb-false _ _ p)) (λ z. cases.skip k x y (inl (ltb-false _ _ p))))

  -- a block that is cut, if it is not refused
  four_parts : (k x y : ℕ) → get_or s (place k x y) 0 ≡ 1 → ((u v : ℕ) → Good k u v (walk s w h k u v)) → Good (suc k) x y (in_turn (part (walk s w h k) (2 ^ k) x y) 4)
  four_parts k x y e below z =
      let f = walk s w h k in
      let n = 2 ^ k in
      let b = four (part f n x y) z in
      let good : (u v : ℕ) (q : Walk) → q ≡ f u v → q.answer ≡ Ok tt → P k u v q.list =
      λ u v q i d. subst (Good k u v) (sym i) (below u v) d in
      subst (P (suc k) x y) (sym b.joined)
      (cases.cut k x y _ _ _ _ e
      (good x y _ (part₀ f n x y) b.done₀)
      (good (x + n) y _ (part₁ f n x y) b.done₁)
      (good x (y + n) _ (part₂ f n x y) b.done₂)
      (good (x + n) (y + n) _ (part₃ f n x y) b.done₃))

  by_byte_lem : (b k x y : ℕ) → get_or s (place k x y) 0 ≡ b → x < w → y < h
      → ((u v : ℕ) → Good k u v (walk s w h k u v)) → Good (suc k) x y (walk s w h (suc k) x y)
  by_byte_lem zero k x y e p q below = at_walk (suc k) x y (walk_leaf s w h k x y p q e) (a_leaf (suc k) x y (2 ^ suc k) (cases.whole k x y e))
  by_byte_lem (suc zero) k x y e p q below = at_walk (suc k) x y (walk_cut s w h k x y p q e) (four_parts k x y e below)
  by_byte_lem (suc (suc b)) k x y e p q below =
      at_walk (suc k) x y (walk_bad s w h k x y p q (omega arith)) (λ z. absurd (not_done _ z))

  pub walk_ind : (k x y : ℕ) → (walk s w h k x y).answer ≡ Ok tt → P k x y (walk s w h k x y).list
  walk_ind zero x y = inside 0 x y (λ p q. at_walk 0 x y (walk_unit s w h x y p q) (a_leaf 0 x y 1 (cases.unit x y)))
  walk_ind (suc k) x y = inside (suc k) x y (λ p q. by_byte_lem (get_or s (place k x y) 0) k x y refl p q (walk_ind k))
