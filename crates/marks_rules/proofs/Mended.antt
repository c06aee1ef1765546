-- The byte that a block has to have, and the walk by it.
--     past_x, past_y, mend_0, mend_1, mend_2, mended    each way to it
--     judged    the walk is refused at the first mark whose byte does not stand there
--     own_marks    where the walk is not refused, each block has the byte that it has to have
-- Assumes nothing.
use Rattle.std.specs.Prelude.{Ok, Err}
use mathlib.Core.Bool.{Bool, true, false}
use mathlib.Core.List.{List, [], ◌∷◌, ◌++◌}
use mathlib.Core.Path.{◌≡◌, refl, sym, ap, ap₂, ◌∙◌}
use Prim.Native.Nat.{ℕ, zero, suc, ◌+◌, ◌*◌, ◌/◌, ◌%◌, ◌^◌, ◌≤◌, ◌<◌}
use native.Mathlib.Omega.{arith}
use borrow.Author.Tests.{le-leb, lt-leb, le-ltb, lt-ltb, eq-eqb, ne_eqb}
use lib.Dec.{leb, ltb, eqb}
use lib.ListN.{get_or}
use Rattle.def.specs.Answers.{Answer}
use Rattle.def.specs.declared.Refusal.{Refusal}
use Rattle.def.specs.declared.Refusal.TheVariants.{Split, Leaf as PastPicture}
use Rattle.laws.specs.Call.{unless}
use Rattle.laws.specs.Index.{pick}
use Rattle.split.specs.Walk.{Walk, onward, in_turn, leaf_walk, by_byte, place, part, walk}
use Rattle.split.proofs.Walks.{not_done, onward_done, onward_stop, turn_none, turn_more, each_done, walk_x, walk_y, walk_unit, walk_leaf, walk_cut, walk_bad, leaf_in_lem, leaf_x, leaf_y}
use Rattle.marks_rules.specs.Marks.{Mark, mark, four, marks, byte_of}
use Rattle.marks_rules.specs.Mended.{mend_by, mend_byte, mend_marks, wrong, judge}
use Rattle.marks_rules.proofs.Blocks.{part_x, part_y, by_start, by_end, by_byte_lem}
use Rattle.marks_rules.proofs.Marks.{parts, marks_x, marks_y, marks_unit, marks_leaf, marks_cut, marks_bad}

-- ---- the mended byte

module _ (s : List ℕ) (w h k x y : ℕ) where
  past_x : w < x + 2 ^ suc k → mend_byte s w h k x y ≡ 1
  unfolding mend_by
  past_x p = simp (lt-leb (x + 2 ^ suc k) w p)

  past_y : x + 2 ^ suc k ≤ w → h < y + 2 ^ suc k → mend_byte s w h k x y ≡ 1
  unfolding mend_by
  past_y p q = simp (le-leb (x + 2 ^ suc k) w p, lt-leb (y + 2 ^ suc k) h q)

  module _ (p : x + 2 ^ suc k ≤ w) (q : y + 2 ^ suc k ≤ h) where
    within : (b : ℕ) → byte_of s k x y ≡ b → mend_byte s w h k x y ≡ by_byte b 0 1 0
    unfolding mend_by
    within b e = simp (le-leb (x + 2 ^ suc k) w p, le-leb (y + 2 ^ suc k) h q, e)

    mend_0 : byte_of s k x y ≡ 0 → mend_byte s w h k x y ≡ 0
    unfolding by_byte
    mend_0 e = within 0 e

    mend_1 : byte_of s k x y ≡ 1 → mend_byte s w h k x y ≡ 1
    unfolding by_byte
    mend_1 e = within 1 e

    mend_2 : 1 < byte_of s k x y → mend_byte s w h k x y ≡ 0
    unfolding by_byte
    mend_2 l = go (byte_of s k x y) refl l where
      go : (b : ℕ) → byte_of s k x y ≡ b → 1 < b → mend_byte s w h k x y ≡ 0
      go zero e m = absurd (omega arith)
      go (suc zero) e m = absurd (omega arith)
      go (suc (suc b)) e m = within (suc (suc b)) e

  -- a cut, or a leaf inside
  pub mended : (P : Type 0) → (mend_byte s w h k x y ≡ 1 → P) → (mend_byte s w h k x y ≡ 0 → x + 2 ^ suc k ≤ w → y + 2 ^ suc k ≤ h → P) → P
  mended P cut whole =
      by_end w h (2 ^ suc k) x y P (λ p. cut (past_x p)) (λ p q. cut (past_y p q))
      (λ p q. by_byte_lem (byte_of s k x y) P (λ e. whole (mend_0 p q e) p q) (λ e. cut (mend_1 p q e)) (λ l. whole (mend_2 p q l) p q))

-- ---- judging some marks and then others

unfoldable pub stop : Answer → Answer → Answer
stop (Ok _) b = b
stop (Err r) b = Err r

module _ (s : List ℕ) where
  pub judge_none : judge s [] ≡ Ok tt
  unfolding judge
  judge_none = refl

  pub judge_same : (m : Mark) (l : List Mark) → get_or s m.place 0 ≡ m.byte → judge s (m ∷ l) ≡ judge s l
  unfolding judge
  judge_same m l e = rw (eq-eqb _ _ e)

  pub judge_other : (m : Mark) (l : List Mark) → (get_or s m.place 0 ≡ m.byte → ⊥) → judge s (m ∷ l) ≡ Err (wrong (get_or s m.place 0))
  unfolding judge
  judge_other m l n = rw (ne_eqb _ _ n)

  pub judge_append : (l m : List Mark) → judge s (l ++ m) ≡ stop (judge s l) (judge s m)
  unfolding judge stop
  judge_append [] m = refl
  judge_append (n ∷ l) m = by (eqb (get_or s n.place 0) n.byte) (judge_append l m) where
    by : (t : Bool) → judge s (l ++ m) ≡ stop (judge s l) (judge s m) → unless t (Err (wrong (get_or s n.place 0))) (judge s (l ++ m)) ≡ stop
        (unless t (Err (wrong (get_or s n.place 0))) (judge s l)) (judge s m)
    by true e = e
    by false e = refl

turn_stops : (f : ℕ → Walk) (n : ℕ) → (in_turn f (suc n)).answer ≡ stop (in_turn f n).answer (f n).answer
unfolding stop
turn_stops f n = ap (λ (v : Walk). v.answer) (turn_more f n) ∙ go (in_turn f n).answer refl where
  go : (a : Answer) → (in_turn f n).answer ≡ a → (onward (in_turn f n).answer (in_turn f n).list (f n)).answer ≡ stop a (f n).answer
  go (Ok _) e = ap (λ (v : Walk). v.answer) (onward_done _ _ _ e)
  go (Err r) e = ap (λ (v : Walk). v.answer) (onward_stop _ _ _ r e)

answer : {v u : Walk} → v ≡ u → v.answer ≡ u.answer
answer e = ap (λ (z : Walk). z.answer) e

-- four walks, each as its marks are judged
four_judged : (s : List ℕ) (f : ℕ → Walk) (g : ℕ → List Mark) → ((n : ℕ) → (f n).answer ≡ judge s (g n)) → (in_turn f 4).answer ≡ judge s (four g)
unfolding stop
four_judged s f g i =
    let a : (n : ℕ) → Answer = λ n. (f n).answer in
    let t₁ : (in_turn f 1).answer ≡ a 0 = turn_stops f 0 ∙ ap (λ (z : Answer). stop z (a 0)) (answer (turn_none f)) in
    let t₂ = turn_stops f 1 ∙ ap (λ (z : Answer). stop z (a 1)) t₁ in
    let t₃ = turn_stops f 2 ∙ ap (λ (z : Answer). stop z (a 2)) t₂ in
    let t₄ = turn_stops f 3 ∙ ap (λ (z : Answer). stop z (a 3)) t₃ in
    t₄ ∙ nested (a 0) (a 1) (a 2) (a 3) ∙ joins where
      nested : (a b c d : Answer) → stop (stop (stop a b) c) d ≡ stop a (stop b (stop c d))
      nested (Ok _) (Ok _) (Ok _) d = refl
      nested (Ok _) (Ok _) (Err r) d = refl
      nested (Ok _) (Err r) c d = refl
      nested (Err r) b c d = refl

      joins : stop (f 0).answer (stop (f 1).answer (stop (f 2).answer (f 3).answer)) ≡ judge s (four g)
      joins =
          ap₂ stop (i 0) (ap₂ stop (i 1) (ap₂ stop (i 2) (i 3)))
          ∙ sym (judge_append s (g 0) _ ∙ ap (stop (judge s (g 0))) (judge_append s (g 1) _ ∙ ap (stop (judge s (g 1))) (judge_append s (g 2) (g 3))))

four_same : (f g : ℕ → List Mark) → ((n : ℕ) → n < 4 → f n ≡ g n) → four f ≡ four g
four_same f g i =
    ap₂ (λ (a b : List Mark). a ++ b) (i 0 (omega arith))
    (ap₂ (λ (a b : List Mark). a ++ b) (i 1 (omega arith)) (ap₂ (λ (a b : List Mark). a ++ b) (i 2 (omega arith)) (i 3 (omega arith))))

leaf_done : (w h n x y : ℕ) → (leaf_walk w h n x y).answer ≡ Ok tt → (x + n ≤ w) × (y + n ≤ h)
leaf_done w h n x y d =
    by_end w h n x y ((x + n ≤ w) × (y + n ≤ h))
    (λ p. absurd (not_done _ (sym (answer (leaf_x w h n x y p)) ∙ d)))
    (λ p q. absurd (not_done _ (sym (answer (leaf_y w h n x y p q)) ∙ d)))
    (λ p q. (p, q))

-- ---- the walk, by the marks

bad_is : (b : ℕ) → 1 < b → wrong b ≡ Split
bad_is b l = rw (lt-ltb 1 b l)

past_is : (b : ℕ) → b ≤ 1 → wrong b ≡ PastPicture
past_is b l = rw (le-ltb 1 b l)

module _ (s : List ℕ) (w h : ℕ) where
  cut_stays : (k x y : ℕ) → byte_of s k x y ≡ 1 → mend_byte s w h k x y ≡ 1
  cut_stays k x y e = by_end w h (2 ^ suc k) x y (mend_byte s w h k x y ≡ 1) (past_x s w h k x y) (past_y s w h k x y) (λ p q. mend_1 s w h k x y p q e)

  abbrev Judged : (k x y : ℕ) → Type 0
  Judged k x y = (walk s w h k x y).answer ≡ judge s (mend_marks s w h k x y)

  -- v is the walk and l the marks
  told : (v : Walk) (l : List Mark) (k x y : ℕ) → walk s w h k x y ≡ v → mend_marks s w h k x y ≡ l → v.answer ≡ judge s l → Judged k x y
  told v l k x y e f g = ap (λ (z : Walk). z.answer) e ∙ g ∙ ap (judge s) (sym f)

  nothing_judged : (k x y : ℕ) → (walk s w h k x y).answer ≡ Ok tt → mend_marks s w h k x y ≡ [] → Judged k x y
  unfolding judge
  nothing_judged k x y e f = e ∙ ap (judge s) (sym f)

  -- a leaf, past the picture or not
  leaf_judged : (k x y : ℕ) → x < w → y < h → byte_of s k x y ≡ 0 → Judged (suc k) x y
  leaf_judged k x y p q e =
      by_end w h (2 ^ suc k) x y (Judged (suc k) x y)
      (λ a. told _ _ (suc k) x y (walk_leaf s w h k x y p q e ∙ leaf_x w h _ x y a) (marks_cut (mend_byte s w h) w h k x y p q (past_x s w h k x y a)) (past _))
      (λ a b. told _ _ (suc k) x y (walk_leaf s w h k x y p q e ∙ leaf_y w h _ x y a b) (marks_cut (mend_byte s w h) w h k x y p q (past_y s w h k x y a b)) (past _))
      (λ a b.
      told _ _ (suc k) x y (walk_leaf s w h k x y p q e ∙ leaf_in_lem w h _ x y a b) (marks_leaf (mend_byte s w h) w h k x y p q (mend_0 s w h k x y a b e))
      (sym (judge_same s (mark (place k x y) 0) [] e ∙ judge_none s))) where
        past : (l : List Mark) → Err PastPicture ≡ judge s (mark (place k x y) 1 ∷ l)
        past l = sym (judge_other s (mark (place k x y) 1) l (λ z. absurd (omega arith)) ∙ ap Err (ap wrong e ∙ past_is 0 (omega arith)))

  bad_judged : (k x y : ℕ) → x < w → y < h → 1 < byte_of s k x y → Judged (suc k) x y
  bad_judged k x y p q g =
      mended s w h k x y (Judged (suc k) x y)
      (λ e. told _ _ (suc k) x y (walk_bad s w h k x y p q g) (marks_cut (mend_byte s w h) w h k x y p q e) (bad _ 1 (omega arith)))
      (λ e a b. told _ _ (suc k) x y (walk_bad s w h k x y p q g) (marks_leaf (mend_byte s w h) w h k x y p q e) (bad _ 0 (omega arith))) where
        bad : (l : List Mark) (b : ℕ) → b ≤ 1 → Err Split ≡ judge s (mark (place k x y) b ∷ l)
        bad l b c = sym (judge_other s (mark (place k x y) b) l (λ z. absurd (omega arith)) ∙ ap Err (bad_is (byte_of s k x y) g))

  pub judged : (k x y : ℕ) → Judged k x y
  judged zero x y =
      by_start w h x y (Judged 0 x y)
      (λ p. nothing_judged 0 x y (answer (walk_x s w h 0 x y p)) (marks_unit (mend_byte s w h) w h x y))
      (λ p q. nothing_judged 0 x y (answer (walk_y s w h 0 x y p q)) (marks_unit (mend_byte s w h) w h x y))
      (λ p q. nothing_judged 0 x y (answer (walk_unit s w h x y p q ∙ leaf_in_lem w h 1 x y (omega arith) (omega arith))) (marks_unit (mend_byte s w h) w h x y))
  judged (suc k) x y =
      by_start w h x y (Judged (suc k) x y)
      (λ p. nothing_judged (suc k) x y (answer (walk_x s w h (suc k) x y p)) (marks_x (mend_byte s w h) w h (suc k) x y p))
      (λ p q. nothing_judged (suc k) x y (answer (walk_y s w h (suc k) x y p q)) (marks_y (mend_byte s w h) w h (suc k) x y p q))
      (λ p q. by_byte_lem (byte_of s k x y) (Judged (suc k) x y) (leaf_judged k x y p q)
      (λ e.
      let f = part (walk s w h k) (2 ^ k) x y in
      let g = parts (mend_byte s w h) w h k x y in
      let i : (n : ℕ) → (f n).answer ≡ judge s (g n) = λ n. judged k (part_x k x n) (part_y k y n) in
      told _ _ (suc k) x y (walk_cut s w h k x y p q e) (marks_cut (mend_byte s w h) w h k x y p q (cut_stays k x y e))
      (four_judged s f g i ∙ sym (judge_same s (mark (place k x y) 1) (four g) e)))
      (bad_judged k x y p q))

  -- where the walk is not refused each byte is the one that its block has to have
  pub own_marks : (k x y : ℕ) → (walk s w h k x y).answer ≡ Ok tt → mend_marks s w h k x y ≡ marks (byte_of s) w h k x y
  own_marks zero x y d = marks_unit (mend_byte s w h) w h x y ∙ sym (marks_unit (byte_of s) w h x y)
  own_marks (suc k) x y d =
      let m = mend_byte s w h in
      let b = byte_of s in
      by_start w h x y (marks m w h (suc k) x y ≡ marks b w h (suc k) x y)
      (λ p. marks_x m w h (suc k) x y p ∙ sym (marks_x b w h (suc k) x y p))
      (λ p q. marks_y m w h (suc k) x y p q ∙ sym (marks_y b w h (suc k) x y p q))
      (λ p q. by_byte_lem (b k x y) (marks m w h (suc k) x y ≡ marks b w h (suc k) x y)
      (λ e.
      let i = leaf_done w h (2 ^ suc k) x y (sym (ap (λ (v : Walk). v.answer) (walk_leaf s w h k x y p q e)) ∙ d) in
      marks_leaf m w h k x y p q (mend_0 s w h k x y i.0 i.1 e) ∙ sym (marks_leaf b w h k x y p q e))
      (λ e.
      let t = sym (ap (λ (v : Walk). v.answer) (walk_cut s w h k x y p q e)) ∙ d in
      let i : (n : ℕ) → n < 4 → parts m w h k x y n ≡ parts b w h k x y n =
      λ n l. own_marks k (part_x k x n) (part_y k y n) (each_done (part (walk s w h k) (2 ^ k) x y) 4 t n l) in
      marks_cut m w h k x y p q (cut_stays k x y e)
      ∙ ap (λ (l : List Mark). mark (place k x y) 1 ∷ l) (four_same (parts m w h k x y) (parts b w h k x y) i)
      ∙ sym (marks_cut b w h k x y p q e))
      (λ g. absurd (not_done _ (sym (ap (λ (v : Walk). v.answer) (walk_bad s w h k x y p q g)) ∙ d))))
