-- A root's bytes, mended, and the changes that make them.
--     walked    bytes that have the mended marks are walked to the end
--     judge_all, no_change    where the walk is not refused every mark stands, and there is no change
--     of_mark    what a listed change is
--     new_put, old_put    the new values put in make the mended bytes, and the old ones the bytes that were
-- Assumes nothing.
use Rattle.std.specs.Prelude.{Ok, Err}
use mathlib.Core.Bool.{Bool, true, false}
use mathlib.Core.List.Memᴰ
use mathlib.Core.List.{List, [], ◌∷◌, ◌++◌, Memᴰ}
use mathlib.Core.Logic.{⊎_elim}
use mathlib.Core.Path.{◌≡◌, refl, sym, ap, ap₂, ◌∙◌, subst}
use Prim.Native.Nat.{ℕ, zero, suc, ◌+◌, ◌*◌, ◌/◌, ◌%◌, ◌^◌, ◌<◌}
use native.Mathlib.Omega.{arith}
use borrow.Author.Tests.{eqb-true, eqb-false}
use lib.Dec.{eqb}
use lib.ListN.{length, get_or, set, length-set}
use lib.Seq.{get_or-set_same, get_or-set_other, set-get_or, ext_get_or}
use Rattle.laws.specs.Call.{unless}
use Rattle.laws.specs.Orders.{run, each}
use Rattle.laws.proofs.Orders.{each_mem}
use Rattle.marks_rules.specs.Marks.{Mark, put_all}
use Rattle.marks_rules.specs.Mended.{mend_byte, mend_marks, wrong, judge}
use Rattle.marks_rules.proofs.Blocks.{part_x, part_y, by_start}
use Rattle.marks_rules.proofs.Descents.{all_done_lem}
use Rattle.marks_rules.proofs.Marks.{parts, marks_leaf, marks_cut, in_four}
use Rattle.marks_rules.proofs.Mended.{mended}
use Rattle.split.specs.Walk.{Walk, in_turn, part, walk}
use Rattle.split.proofs.Walks.{not_done, walk_x, walk_y, walk_unit, walk_leaf, walk_cut, leaf_in_lem}
use Rattle.mend.specs.Changes.{Change, changed, changes_in}
use Rattle.mend.proofs.Lists.{change_none, change_one}

-- ---- bytes that have the mended marks are walked to the end

turned : (f : ℕ → Walk) → ((i : ℕ) → i < 4 → (f i).answer ≡ Ok tt) → (in_turn f 4).answer ≡ Ok tt
turned f h = all_done_lem f 4 h

answer_of_lem : {v u : Walk} → v ≡ u → u.answer ≡ Ok tt → v.answer ≡ Ok tt
answer_of_lem e d = ap (λ (z : Walk). z.answer) e ∙ d

module _ (s : List ℕ) (w h : ℕ) (n : List ℕ) where
  abbrev Has : (k x y : ℕ) → Type 0
  Has k x y = (m : Mark) → Memᴰ m (mend_marks s w h k x y) → get_or n m.place 0 ≡ m.byte

  has_at : {l : List Mark} {m : Mark} (k x y : ℕ) → Has k x y → mend_marks s w h k x y ≡ l → Memᴰ m l → get_or n m.place 0 ≡ m.byte
  has_at {m = m} k x y g e i = g m (subst (Memᴰ m) (sym e) i)

  pub walked : (k x y : ℕ) → Has k x y → (walk n w h k x y).answer ≡ Ok tt
  walked zero x y g =
      by_start w h x y ((walk n w h zero x y).answer ≡ Ok tt) (λ p. answer_of_lem (walk_x n w h 0 x y p) refl) (λ p q. answer_of_lem (walk_y n w h 0 x y p q) refl)
      (λ p q. answer_of_lem (walk_unit n w h x y p q ∙ leaf_in_lem w h 1 x y (omega arith) (omega arith)) refl)
  walked (suc k) x y g =
      let f = mend_byte s w h in
      by_start w h x y ((walk n w h (suc k) x y).answer ≡ Ok tt)
      (λ p. answer_of_lem (walk_x n w h (suc k) x y p) refl)
      (λ p q. answer_of_lem (walk_y n w h (suc k) x y p q) refl)
      (λ p q. mended s w h k x y ((walk n w h (suc k) x y).answer ≡ Ok tt)
      (λ e.
      let l = marks_cut f w h k x y p q e in
      answer_of_lem (walk_cut n w h k x y p q (has_at (suc k) x y g l (Memᴰ.head refl)))
      (turned (part (walk n w h k) (2 ^ k) x y)
      (λ i j. walked k (part_x k x i) (part_y k y i) (λ m u. has_at (suc k) x y g l (Memᴰ.tail (in_four (parts f w h k x y) m i j u))))))
      (λ e a b.
      let l = marks_leaf f w h k x y p q e in
      answer_of_lem (walk_leaf n w h k x y p q (has_at (suc k) x y g l (Memᴰ.head refl)) ∙ leaf_in_lem w h (2 ^ suc k) x y a b) refl))

-- ---- of a walk that is not refused every mark stands

pub judge_all : (s : List ℕ) (l : List Mark) → judge s l ≡ Ok tt → (m : Mark) → Memᴰ m l → get_or s m.place 0 ≡ m.byte
unfolding judge
judge_all s [] d m i = absurd (Memᴰ.not-nil i)
judge_all s (n ∷ l) d m i = by (eqb (get_or s n.place 0) n.byte) refl d (λ e. judge_all s l e m) where
  by : (t : Bool) → eqb (get_or s n.place 0) n.byte ≡ t → unless t (Err (wrong (get_or s n.place 0))) (judge s l) ≡ Ok tt
      → (judge s l ≡ Ok tt → Memᴰ m l → get_or s m.place 0 ≡ m.byte) → get_or s m.place 0 ≡ m.byte
  by true e d f = ⊎_elim (λ u. subst (λ (z : Mark). get_or s z.place 0 ≡ z.byte) (sym u) (eqb-true _ _ e)) (f d) (Memᴰ.cases_cons i)
  by false e d f = absurd (not_done _ d)

pub no_change : (b : List ℕ) (i : ℕ) (l : List Mark) → ((m : Mark) → Memᴰ m l → get_or b m.place 0 ≡ m.byte) → changes_in b i l ≡ []
unfolding each
no_change b i [] all = refl
no_change b i (m ∷ l) all =
    ap₂ (λ (x y : List Change). x ++ y) (change_none i m.place (get_or b m.place 0) m.byte (all m (Memᴰ.head refl))) (no_change b i l (λ n k. all n (Memᴰ.tail k)))

-- ---- the changes of a root's bytes b: its marks l, of which two at one place have one byte

-- where a change's byte stands among its root's
abbrev pub in_root : Change → ℕ
in_root c = 256 * c.level + c.place

-- the bytes with a value of each change put in
abbrev pub put_in : (Change → ℕ) → List Change → List ℕ → List ℕ
put_in value l b = run (λ (c : Change) (t : List ℕ). set t (in_root c) (value c)) l b

abbrev pub new_of : Change → ℕ
new_of c = c.new

abbrev pub old_of : Change → ℕ
old_of c = c.old

module _ (b : List ℕ) (i : ℕ) where
  abbrev pub change : Mark → Change
  change m = record { root = i; level = m.place / 256; place = m.place % 256; old = get_or b m.place 0; new = m.byte }

  pub place_back : (m : Mark) → in_root (change m) ≡ m.place
  place_back m = omega arith

  cases : (m : Mark) (P : Type 0) → (get_or b m.place 0 ≡ m.byte → changed b i m ≡ [] → P) → ((get_or b m.place 0 ≡ m.byte → ⊥) → changed b i m ≡ change m ∷ [] → P) → P
  cases m P f g = by (eqb (get_or b m.place 0) m.byte) refl where
    by : (t : Bool) → eqb (get_or b m.place 0) m.byte ≡ t → P
    by true e = let q = eqb-true _ _ e in f q (change_none i m.place (get_or b m.place 0) m.byte q)
    by false e = let q = eqb-false _ _ e in g q (change_one i m.place (get_or b m.place 0) m.byte q)

  -- a listed change is that of a mark whose byte does not stand
  pub record Of (l : List Mark) (c : Change) : Type 0 where
    pub one : Mark
    pub listed : Memᴰ one l
    pub is : c ≡ change one
    pub differs : get_or b one.place 0 ≡ one.byte → ⊥

  pub of_mark : (l : List Mark) (c : Change) → Memᴰ c (changes_in b i l) → Of l c
  of_mark l c k =
      let f = each_mem (changed b i) l c k in
      let m = f.one in
      cases m (Of l c)
      (λ e n. absurd (Memᴰ.not-nil (subst (Memᴰ c) n f.mine)))
      (λ e n. record { one = m; listed = f.listed; is = only (subst (Memᴰ c) n f.mine); differs = e }) where
        only : {d : Change} → Memᴰ c (d ∷ []) → c ≡ d
        only k = ⊎_elim (λ e. e) (λ j. absurd (Memᴰ.not-nil j)) (Memᴰ.cases_cons k)

  abbrev pub One : List Mark → Type 0
  One l = (m n : Mark) → Memᴰ m l → Memᴰ n l → m.place ≡ n.place → m.byte ≡ n.byte

  -- the new values put in are the marks put in: t has the bytes that stand
  pub new_put : (l : List Mark) (t : List ℕ) → One l → ((m : Mark) → Memᴰ m l → get_or b m.place 0 ≡ m.byte → get_or t m.place 0 ≡ m.byte)
      → put_all l t ≡ put_in new_of (changes_in b i l) t
  unfolding put_all run each
  new_put [] t o h = refl
  new_put (m ∷ l) t o h =
      cases m (put_all l (set t m.place m.byte) ≡ put_in new_of (changed b i m ++ changes_in b i l) t)
      (λ e c.
      let s : set t m.place m.byte ≡ t = ap (set t m.place) (sym (h m (Memᴰ.head refl) e)) ∙ set-get_or t m.place 0 in
      ap (put_all l) s ∙ new_put l t (λ x y u v. o x y (Memᴰ.tail u) (Memᴰ.tail v)) (λ n k. h n (Memᴰ.tail k))
      ∙ ap (λ (z : List Change). put_in new_of (z ++ changes_in b i l) t) (sym c))
      (λ e c.
      new_put l (set t m.place m.byte) (λ x y u v. o x y (Memᴰ.tail u) (Memᴰ.tail v))
      (λ n k q.
      get_or-set_other t m.place n.place m.byte 0
      (λ z. e (ap (λ (p : ℕ). get_or b p 0) (sym z) ∙ q ∙ o n m (Memᴰ.tail k) (Memᴰ.head refl) z))
      ∙ h n (Memᴰ.tail k) q)
      ∙ ap (λ (p : ℕ). put_in new_of (changes_in b i l) (set t p m.byte)) (sym (place_back m))
      ∙ ap (λ (z : List Change). put_in new_of (z ++ changes_in b i l) t) (sym c))

  -- a place that no change has
  abbrev pub Free : List Change → ℕ → Type 0
  Free l p = (c : Change) → Memᴰ c l → in_root c ≡ p → ⊥

  pub new_else : (l : List Change) (t : List ℕ) (p : ℕ) → Free l p → get_or (put_in new_of l t) p 0 ≡ get_or t p 0
  unfolding run
  new_else [] t p f = refl
  new_else (c ∷ l) t p f =
      new_else l (set t (in_root c) c.new) p (λ d k. f d (Memᴰ.tail k)) ∙ get_or-set_other t (in_root c) p c.new 0 (λ e. f c (Memᴰ.head refl) (sym e))

  pub length_new : (l : List Change) (t : List ℕ) → length (put_in new_of l t) ≡ length t
  unfolding run
  length_new [] t = refl
  length_new (c ∷ l) t = length_new l (set t (in_root c) c.new) ∙ length-set t (in_root c) c.new

  -- the old values put in give the bytes again: t differs from them at the changes' places alone
  pub old_put : (l : List Mark) (t : List ℕ) → length t ≡ length b → ((m : Mark) → Memᴰ m l → m.place < length b)
      → ((p : ℕ) → p < length b → Free (changes_in b i l) p → get_or t p 0 ≡ get_or b p 0) → put_in old_of (changes_in b i l) t ≡ b
  unfolding run each
  old_put [] t long inside same = ext_get_or 0 t b long (λ p q. same p (omega (arith, q, long)) (λ c k e. Memᴰ.not-nil k))
  old_put (m ∷ l) t long inside same =
      cases m (put_in old_of (changed b i m ++ changes_in b i l) t ≡ b)
      (λ e c.
      ap (λ (z : List Change). put_in old_of (z ++ changes_in b i l) t) c
      ∙ old_put l t long (λ n k. inside n (Memᴰ.tail k)) (λ p q f. same p q (subst (λ (z : List Change). Free (z ++ changes_in b i l) p) (sym c) f)))
      (λ e c.
      let x = m.place in
      let v = get_or b x 0 in
      ap (λ (z : List Change). put_in old_of (z ++ changes_in b i l) t) c
      ∙ ap (λ (p : ℕ). put_in old_of (changes_in b i l) (set t p v)) (place_back m)
      ∙ old_put l (set t x v) (length-set t x v ∙ long) (λ n k. inside n (Memᴰ.tail k))
      (λ p q f. at t long x v p q (inside m (Memᴰ.head refl))
      (λ z. same p q (subst (λ (y : List Change). Free (y ++ changes_in b i l) p) (sym c) (both (change m) (changes_in b i l) p (λ u. z (sym u ∙ place_back m)) f))))) where
        both : (c : Change) (r : List Change) (p : ℕ) → (in_root c ≡ p → ⊥) → Free r p → Free (c ∷ r) p
        both c r p n f d k e = ⊎_elim (λ u. n (ap in_root (sym u) ∙ e)) (λ j. f d j e) (Memᴰ.cases_cons k)

        at : (t : List ℕ) → length t ≡ length b → (x v p : ℕ) → p < length b → x < length b → ((p ≡ x → ⊥) → get_or t p 0 ≡ get_or b p 0) → get_or (set t x (get_or b x 0)) p 0 ≡ get_or b p 0
        at t long x v p q r f = by (eqb p x) refl where
          by : (z : Bool) → eqb p x ≡ z → get_or (set t x (get_or b x 0)) p 0 ≡ get_or b p 0
          by true e = let y = eqb-true p x e in ap (λ (k : ℕ). get_or (set t x (get_or b x 0)) k 0) y ∙ get_or-set_same t x (get_or b x 0) 0 (omega (arith, r, long)) ∙ ap (λ (k : ℕ). get_or b k 0) (sym y)
          by false e = let n = eqb-false p x e in get_or-set_other t x p (get_or b x 0) 0 n ∙ f n
