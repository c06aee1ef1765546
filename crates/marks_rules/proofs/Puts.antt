-- Marks put into a root's bytes.
--     formed, one_byte    every mark is a block's, and two at one place have one byte
--     length_put, put_there, put_else, put_same    what is put is there, and nothing else moves
--     all_there    the marks of a root are there once they are put
-- Assumes nothing.
use mathlib.Core.Bool.{Bool, true, false}
use mathlib.Core.List.Memᴰ
use mathlib.Core.List.{List, [], ◌∷◌, ◌++◌, Memᴰ}
use mathlib.Core.Logic.{◌⊎◌, inl, inr, ⊎_elim}
use mathlib.Core.Path.{◌≡◌, refl, sym, ap, ◌∙◌, subst}
use Prim.Native.Nat.{ℕ, zero, suc, ◌+◌, ◌*◌, ◌/◌, ◌%◌, ◌^◌, ◌≤◌, ◌<◌}
use native.Mathlib.Omega.{arith}
use borrow.Author.Tests.{eqb-true, eqb-false}
use lib.Dec.{eqb}
use lib.ListN.{length, get_or, set, length-set}
use lib.Seq.{get_or-set_same, get_or-set_other, set-get_or}
use Rattle.laws.specs.Orders.{run}
use Rattle.split.specs.Walk.{place}
use Rattle.marks_rules.specs.Marks.{Mark, mark, marks, put_all}
use Rattle.marks_rules.proofs.Blocks.{part_x, part_y, Rooted, part_rooted, place_apart, by_start, by_byte_lem}
use Rattle.marks_rules.proofs.Marks.{parts, marks_x, marks_y, marks_unit, marks_leaf, marks_cut, marks_bad, of_four, none}

-- ---- every mark is a block's

pub record Formed (f : ℕ → ℕ → ℕ → ℕ) (X Y : ℕ) (m : Mark) : Type 0 where
  pub k : ℕ
  pub x : ℕ
  pub y : ℕ
  pub rooted : Rooted X Y (suc k) x y
  pub there : m.place ≡ place k x y
  pub has : m.byte ≡ f k x y

module _ (f : ℕ → ℕ → ℕ → ℕ) (w h X Y : ℕ) where
  pub formed : (k x y : ℕ) → Rooted X Y k x y → (m : Mark) → Memᴰ m (marks f w h k x y) → Formed f X Y m
  formed zero x y r m i = none (marks_unit f w h x y) i
  formed (suc k) x y r m i =
      by_start w h x y (Formed f X Y m) (λ p. none (marks_x f w h (suc k) x y p) i) (λ p q. none (marks_y f w h (suc k) x y p q) i)
      (λ p q. by_byte_lem (f k x y) (Formed f X Y m)
      (λ e. ⊎_elim (λ u. head p q u e) (λ j. absurd (Memᴰ.not-nil j)) (Memᴰ.cases_cons (subst (Memᴰ m) (marks_leaf f w h k x y p q e) i)))
      (λ e. ⊎_elim (λ u. head p q u e)
      (λ j. of_four (parts f w h k x y) m (Formed f X Y m) (λ a b c. formed k (part_x k x a) (part_y k y a) (part_rooted X Y k x y r a b) m c) j)
      (Memᴰ.cases_cons (subst (Memᴰ m) (marks_cut f w h k x y p q e) i)))
      (λ g. ⊎_elim (λ u. head p q u refl) (λ j. absurd (Memᴰ.not-nil j)) (Memᴰ.cases_cons (subst (Memᴰ m) (marks_bad f w h k x y p q g) i)))) where
        head : {b : ℕ} → x < w → y < h → m ≡ mark (place k x y) b → f k x y ≡ b → Formed f X Y m
        head p q u e = record { k = k; x = x; y = y; rooted = r; there = ap (λ (z : Mark). z.place) u; has = ap (λ (z : Mark). z.byte) u ∙ sym e }

  -- so marks at one place have one byte
  pub one_byte : {m n : Mark} → Formed f X Y m → Formed f X Y n → m.place ≡ n.place → m.byte ≡ n.byte
  one_byte a b e =
      let s = place_apart X Y a.k a.x a.y b.k b.x b.y a.rooted b.rooted (sym a.there ∙ e ∙ b.there) in
      a.has ∙ ap (λ (n : ℕ). f n a.x a.y) s.log ∙ ap (λ (n : ℕ). f b.k n a.y) s.column ∙ ap (f b.k b.x) s.row ∙ sym b.has

-- ---- what is put

abbrev put : Mark → List ℕ → List ℕ
put m t = set t m.place m.byte

pub length_put : (l : List Mark) (s : List ℕ) → length (put_all l s) ≡ length s
unfolding put_all run
length_put [] s = refl
length_put (m ∷ l) s = length_put l (put m s) ∙ length-set s m.place m.byte

pub record At (p : ℕ) (l : List Mark) : Type 0 where
  pub one : Mark
  pub listed : Memᴰ one l
  pub there : one.place ≡ p

-- where every mark at p has the byte v, and the bytes have it or a mark puts it, it is there
pub put_there : (p v : ℕ) (l : List Mark) (s : List ℕ) → p < length s → ((m : Mark) → Memᴰ m l → m.place ≡ p → m.byte ≡ v)
    → (get_or s p 0 ≡ v) ⊎ At p l → get_or (put_all l s) p 0 ≡ v
unfolding put_all run
put_there p v [] s lt all (inl e) = e
put_there p v [] s lt all (inr a) = absurd (Memᴰ.not-nil a.listed)
put_there p v (m ∷ l) s lt all d =
    put_there p v l (put m s) (subst (λ (n : ℕ). p < n) (sym (length-set s m.place m.byte)) lt) (λ n i. all n (Memᴰ.tail i)) (go (eqb p m.place) refl d) where
      go : (same : Bool) → eqb p m.place ≡ same → (get_or s p 0 ≡ v) ⊎ At p (m ∷ l) → (get_or (put m s) p 0 ≡ v) ⊎ At p l
      go true e d =
          let q = eqb-true p m.place e in
          inl (ap (λ (n : ℕ). get_or (put m s) n 0) q ∙ get_or-set_same s m.place m.byte 0 (subst (λ (n : ℕ). n < length s) q lt) ∙ all m (Memᴰ.head refl) (sym q))
      go false e (inl d) = inl (get_or-set_other s m.place p m.byte 0 (eqb-false p m.place e) ∙ d)
      go false e (inr a) =
          ⊎_elim (λ u. absurd (eqb-false p m.place e (sym a.there ∙ ap (λ (z : Mark). z.place) u)))
          (λ i. inr (record { one = a.one; listed = i; there = a.there }))
          (Memᴰ.cases_cons a.listed)

-- and what no mark puts is as it was
pub put_else : (p : ℕ) (l : List Mark) (s : List ℕ) → ((m : Mark) → Memᴰ m l → m.place ≡ p → ⊥) → get_or (put_all l s) p 0 ≡ get_or s p 0
unfolding put_all run
put_else p [] s z = refl
put_else p (m ∷ l) s z = put_else p l (put m s) (λ n i. z n (Memᴰ.tail i)) ∙ get_or-set_other s m.place p m.byte 0 (λ e. z m (Memᴰ.head refl) (sym e))

-- bytes that stand there already
pub put_same : (l : List Mark) (s : List ℕ) → ((m : Mark) → Memᴰ m l → get_or s m.place 0 ≡ m.byte) → put_all l s ≡ s
unfolding put_all run
put_same [] s all = refl
put_same (m ∷ l) s all =
    let e : put m s ≡ s = ap (set s m.place) (sym (all m (Memᴰ.head refl))) ∙ set-get_or s m.place 0 in
    ap (put_all l) e ∙ put_same l s (λ n i. all n (Memᴰ.tail i))

-- ---- a root

-- the marks of a root are there once they are put
module _ (f : ℕ → ℕ → ℕ → ℕ) (w h X Y : ℕ) (s : List ℕ) (long : length s ≡ 1024) where
  abbrev pub at_root : Rooted X Y 4 (16 * X) (16 * Y)
  at_root = record { deep = omega arith; column = omega arith; row = omega arith; right = omega arith; bottom = omega arith }

  pub all_there : (m : Mark) → Memᴰ m (marks f w h 4 (16 * X) (16 * Y)) → get_or (put_all (marks f w h 4 (16 * X) (16 * Y)) s) m.place 0 ≡ m.byte
  all_there m i =
      let a = formed f w h X Y 4 (16 * X) (16 * Y) at_root m i in
      put_there m.place m.byte (marks f w h 4 (16 * X) (16 * Y)) s (subst (λ (n : ℕ). m.place < n) (sym long) (inside m a))
      (λ n j e. one_byte f w h X Y (formed f w h X Y 4 (16 * X) (16 * Y) at_root n j) a e)
      (inr (record { one = m; listed = i; there = refl })) where
        inside : (m : Mark) → Formed f X Y m → m.place < 1024
        inside m a = let e = a.there in let d = a.rooted.deep in omega arith
