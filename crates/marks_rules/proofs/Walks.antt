-- Bytes that have a root's marks are walked as it is.
-- Assumes nothing.
use Rattle.std.specs.Prelude.{Ok}
use mathlib.Core.List.{List, [], ◌∷◌, Memᴰ}
use mathlib.Core.Path.{◌≡◌, refl, sym, ap, ap₂, ◌∙◌, subst}
use Prim.Native.Nat.{ℕ, zero, suc, ◌+◌, ◌*◌, ◌/◌, ◌%◌, ◌^◌, ◌≤◌, ◌<◌}
use native.Mathlib.Omega.{arith}
use lib.ListN.{get_or}
use Rattle.split.specs.Walk.{Walk, and_then, in_turn, place, part, walk}
use Rattle.split.proofs.Walks.{not_done, turn_none, turn_more, each_done, walk_x, walk_y, walk_unit, walk_leaf, walk_cut, walk_bad}
use Rattle.marks_rules.specs.Marks.{Mark, mark, marks, byte_of}
use Rattle.marks_rules.proofs.Blocks.{part_x, part_y, by_start, by_byte_lem}
use Rattle.marks_rules.proofs.Marks.{parts, marks_leaf, marks_cut, in_four}

-- ---- bytes that have the marks of bytes that are walked to the end are walked alike

pub turn_same : (f g : ℕ → Walk) (n : ℕ) → ((i : ℕ) → i < n → f i ≡ g i) → in_turn f n ≡ in_turn g n
turn_same f g zero e = turn_none f ∙ sym (turn_none g)
turn_same f g (suc n) e =
    turn_more f n
    ∙ ap₂ (λ (a b : Walk). and_then a b) (turn_same f g n (λ i l. e i (omega arith))) (e n (omega arith))
    ∙ sym (turn_more g n)

module _ (s : List ℕ) (w h : ℕ) (n : List ℕ) where
  pub same_walk : (k x y : ℕ) → (walk s w h k x y).answer ≡ Ok tt → ((m : Mark) → Memᴰ m (marks (byte_of s) w h k x y) → get_or n m.place 0 ≡ m.byte) → walk n w h k x y ≡ walk s w h k x y
  same_walk zero x y d g =
      by_start w h x y (walk n w h zero x y ≡ walk s w h zero x y) (λ p. walk_x n w h 0 x y p ∙ sym (walk_x s w h 0 x y p)) (λ p q. walk_y n w h 0 x y p q ∙ sym (walk_y s w h 0 x y p q))
      (λ p q. walk_unit n w h x y p q ∙ sym (walk_unit s w h x y p q))
  same_walk (suc k) x y d g =
      by_start w h x y (walk n w h (suc k) x y ≡ walk s w h (suc k) x y) (λ p. walk_x n w h (suc k) x y p ∙ sym (walk_x s w h (suc k) x y p))
      (λ p q. walk_y n w h (suc k) x y p q ∙ sym (walk_y s w h (suc k) x y p q))
      (λ p q. by_byte_lem (byte_of s k x y) (walk n w h (suc k) x y ≡ walk s w h (suc k) x y)
      (λ e. walk_leaf n w h k x y p q (g _ (subst (Memᴰ (mark (place k x y) 0)) (sym (marks_leaf (byte_of s) w h k x y p q e)) (Memᴰ.head refl))) ∙ sym (walk_leaf s w h k x y p q e))
      (λ e.
      let l = marks_cut (byte_of s) w h k x y p q e in
      let t = sym (ap (λ (v : Walk). v.answer) (walk_cut s w h k x y p q e)) ∙ d in
      walk_cut n w h k x y p q (g _ (subst (Memᴰ (mark (place k x y) 1)) (sym l) (Memᴰ.head refl)))
      ∙ turn_same (part (walk n w h k) (2 ^ k) x y) (part (walk s w h k) (2 ^ k) x y) 4
      (λ i j. same_walk k (part_x k x i) (part_y k y i) (each_done (part (walk s w h k) (2 ^ k) x y) 4 t i j)
      (λ m c. g m (subst (Memᴰ m) (sym l) (Memᴰ.tail (in_four (parts (byte_of s) w h k x y) m i j c)))))
      ∙ sym (walk_cut s w h k x y p q e))
      (λ b. absurd (not_done _ (sym (ap (λ (v : Walk). v.answer) (walk_bad s w h k x y p q b)) ∙ d))))
