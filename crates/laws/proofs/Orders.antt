-- Laws of lists in an order, and of steps taken one after another.
--     pairwise_append, pairwise_imp, pairwise_both, pairwise_cross, pairwise_rest    lists whose members stand in a relation
--     same_run    two lists with the same members, each in an order R, come to the same steps, if steps that R lets stand in both orders commute
--     same_list    two lists with the same members in a strict order are the same
--     From, each_mem, mem_each, pairwise_each, each_append, each_each    what each member of a list comes to
-- Assumes nothing.
use mathlib.Core.Logic.{◌⊎◌, inl, inr, ⊎_elim}
use mathlib.Core.List.Memᴰ
use mathlib.Core.List.{List, [], ◌∷◌, ◌++◌, append_assoc, append-nil, Memᴰ}
use mathlib.Core.Path.{◌≡◌, refl, sym, ap, ap₂, ◌∙◌, subst}
use Rattle.laws.specs.Orders.{Pairwise, run, each}

module _ {E : Type 0} where
  pub pairwise_append : (R : E → E → Type 0) (l m : List E) → Pairwise R l → Pairwise R m
      → ((e f : E) → Memᴰ e l → Memᴰ f m → R e f) → Pairwise R (l ++ m)
  pairwise_append R [] m p q h = q
  pairwise_append R (e ∷ l) m p q h = (
    λ f i. ⊎_elim (p.0 f) (h e f (Memᴰ.head refl)) (Memᴰ.append_cases l i),
    pairwise_append R l m p.1 q (λ g f i j. h g f (Memᴰ.tail i) j),
  )

  pub pairwise_imp : {R S : E → E → Type 0} (l : List E) → ((e f : E) → Memᴰ e l → Memᴰ f l → R e f → S e f) → Pairwise R l → Pairwise S l
  pairwise_imp [] h p = tt
  pairwise_imp (e ∷ l) h p = (λ f i. h e f (Memᴰ.head refl) (Memᴰ.tail i) (p.0 f i), pairwise_imp l (λ g f i j. h g f (Memᴰ.tail i) (Memᴰ.tail j)) p.1)

  pub pairwise_both : (R S : E → E → Type 0) (l : List E) → Pairwise R l → Pairwise S l → Pairwise (λ e f. R e f × S e f) l
  pairwise_both R S [] p q = tt
  pairwise_both R S (e ∷ l) p q = (λ f m. (p.0 f m, q.0 f m), pairwise_both R S l p.1 q.1)

  -- a member of one list and one of a list that follows it
  pub pairwise_cross : (R : E → E → Type 0) {p q : E} {l m : List E} → Memᴰ p l → Memᴰ q m → Pairwise R (l ++ m) → R p q
  pairwise_cross R {p} {q} (Memᴰ.head {x = x} {xs = l} e) j t = subst (λ (z : E). R z q) (sym e) (t.0 q (Memᴰ.append_right l j))
  pairwise_cross R (Memᴰ.tail i) j t = pairwise_cross R i j t.1

  pub pairwise_rest : (R : E → E → Type 0) (l m : List E) → Pairwise R (l ++ m) → Pairwise R m
  pairwise_rest R [] m t = t
  pairwise_rest R (p ∷ l) m t = pairwise_rest R l m t.1

  -- a member that is taken out of its list
  pub without : {e : E} {l : List E} → Memᴰ e l → List E
  without (Memᴰ.head {xs = l} p) = l
  without (Memᴰ.tail {x = f} m) = f ∷ without m

  pub without_mem : {e : E} {l : List E} (m : Memᴰ e l) (f : E) → Memᴰ f (without m) → Memᴰ f l
  unfolding without
  without_mem (Memᴰ.head p) f i = Memᴰ.tail i
  without_mem (Memᴰ.tail m) f i = ⊎_elim Memᴰ.head (λ j. Memᴰ.tail (without_mem m f j)) (Memᴰ.cases_cons i)

  pub mem_without : {e : E} {l : List E} (m : Memᴰ e l) (f : E) → Memᴰ f l → (f ≡ e) ⊎ Memᴰ f (without m)
  unfolding without
  mem_without (Memᴰ.head p) f i = ⊎_elim (λ q. inl (q ∙ sym p)) inr (Memᴰ.cases_cons i)
  mem_without (Memᴰ.tail m) f i = ⊎_elim (λ q. inr (Memᴰ.head q)) (λ j. ⊎_elim inl (λ k. inr (Memᴰ.tail k)) (mem_without m f j)) (Memᴰ.cases_cons i)

  pub pairwise_without : (R : E → E → Type 0) {e : E} {l : List E} (m : Memᴰ e l) → Pairwise R l → Pairwise R (without m)
  unfolding without
  pairwise_without R (Memᴰ.head p) q = q.1
  pairwise_without R (Memᴰ.tail m) q = (λ f i. q.0 f (without_mem m f i), pairwise_without R m q.1)

  -- nothing that is left is the member itself
  pub gone : (R : E → E → Type 0) → ((e : E) → R e e → ⊥) → {e : E} {l : List E} (m : Memᴰ e l) → Pairwise R l → Memᴰ e (without m) → ⊥
  unfolding without
  gone R irr {e} (Memᴰ.head p) q i = irr e (subst (λ (f : E). R f e) (sym p) (q.0 e i))
  gone R irr {e} (Memᴰ.tail {x = f} m) q i =
      ⊎_elim (λ (p : e ≡ f). irr e (subst (λ (g : E). R g e) (sym p) (q.0 e m))) (gone R irr m q.1) (Memᴰ.cases_cons i)

module _ {E A : Type 0} (op : E → A → A) (R : E → E → Type 0) (irr : (e : E) → R e e → ⊥)
    (comm : (e f : E) → R e f → R f e → (a : A) → op e (op f a) ≡ op f (op e a)) where
  -- a member goes to the front, past those that it may follow and may precede
  front : {e : E} {l : List E} (m : Memᴰ e l) → Pairwise R l → ((f : E) → Memᴰ f (without m) → R e f) → (a : A) → run op l a ≡ run op (without m) (op e a)
  unfolding without run
  front (Memᴰ.head {xs = l} p) q h a = ap (λ (f : E). run op l (op f a)) (sym p)
  front {e} (Memᴰ.tail {x = f} m) q h a =
      front m q.1 (λ g i. h g (Memᴰ.tail i)) (op f a)
      ∙ ap (run op (without m)) (comm e f (h f (Memᴰ.head refl)) (q.0 e m) a)

  pub same_run : (l k : List E) → Pairwise R l → Pairwise R k → ((e : E) → Memᴰ e l → Memᴰ e k) → ((e : E) → Memᴰ e k → Memᴰ e l)
      → (a : A) → run op l a ≡ run op k a
  unfolding run
  same_run [] [] p q f g a = refl
  same_run [] (e ∷ k) p q f g a = absurd (Memᴰ.not-nil (g e (Memᴰ.head refl)))
  same_run (e ∷ l) k p q f g a =
      let m = f e (Memᴰ.head refl) in
      let back : (b : E) → Memᴰ b (without m) → Memᴰ b l =
      λ b i. ⊎_elim (λ (z : b ≡ e). absurd (gone R irr m q (Memᴰ.cast (sym z) i))) (λ j. j) (Memᴰ.cases_cons (g b (without_mem m b i))) in
      same_run l (without m) p.1 (pairwise_without R m q)
      (λ b i. ⊎_elim (λ (z : b ≡ e). absurd (irr e (p.0 e (Memᴰ.cast (sym z) i)))) (λ j. j) (mem_without m b (f b (Memᴰ.tail i))))
      back (op e a)
      ∙ sym (front m q (λ b i. p.0 b (back b i)) a)

pub run_append : {E A : Type 0} (op : E → A → A) (l k : List E) (a : A) → run op (l ++ k) a ≡ run op k (run op l a)
unfolding run
run_append op [] k a = refl
run_append op (e ∷ l) k a = run_append op l k (op e a)

-- two lists with the same members in a strict order are the same
module _ {E : Type 0} (R : E → E → Type 0) (irr : (e : E) → R e e → ⊥) (strict : (e f : E) → R e f → R f e → ⊥) where
  add : E → List E → List E
  add e l = l ++ (e ∷ [])

  all_added : (l k : List E) → run add l k ≡ k ++ l
  unfolding run add
  all_added [] k = sym (append-nil k)
  all_added (e ∷ l) k = all_added l (k ++ (e ∷ [])) ∙ append_assoc k (e ∷ []) l

  pub same_list : (l k : List E) → Pairwise R l → Pairwise R k → ((e : E) → Memᴰ e l → Memᴰ e k) → ((e : E) → Memᴰ e k → Memᴰ e l) → l ≡ k
  same_list l k p q f g = sym (all_added l []) ∙ same_run add R irr (λ e d a b. absurd (strict e d a b)) l k p q f g [] ∙ all_added k []

-- ---- the lists of the members of a list, one after the other

module _ {E A : Type 0} (f : E → List A) where
  pub record From (a : A) (l : List E) : Type 0 where
    pub one : E
    pub listed : Memᴰ one l
    pub mine : Memᴰ a (f one)

  pub each_mem : (l : List E) (a : A) → Memᴰ a (each f l) → From a l
  unfolding each
  each_mem [] a m = absurd (Memᴰ.not-nil m)
  each_mem (e ∷ l) a m =
      ⊎_elim (λ i. record { one = e; listed = Memᴰ.head refl; mine = i })
      (λ i. let h = each_mem l a i in record { one = h.one; listed = Memᴰ.tail h.listed; mine = h.mine })
      (Memᴰ.append_cases (f e) m)

  pub mem_each : {e : E} {l : List E} {a : A} → Memᴰ e l → Memᴰ a (f e) → Memᴰ a (each f l)
  unfolding each
  mem_each {a = a} (Memᴰ.head {xs = l} p) i = Memᴰ.append_left (each f l) (subst (λ (g : E). Memᴰ a (f g)) p i)
  mem_each (Memᴰ.tail {x = g} m) i = Memᴰ.append_right (f g) (mem_each m i)

  pub pairwise_each : (R : A → A → Type 0) (S : E → E → Type 0) (l : List E) → Pairwise S l
      → ((e : E) → Memᴰ e l → Pairwise R (f e))
      → ((d e : E) (a b : A) → Memᴰ d l → Memᴰ e l → S d e → Memᴰ a (f d) → Memᴰ b (f e) → R a b)
      → Pairwise R (each f l)
  unfolding each
  pairwise_each R S [] p h k = tt
  pairwise_each R S (e ∷ l) p h k =
      pairwise_append R (f e) (each f l) (h e (Memᴰ.head refl))
      (pairwise_each R S l p.1 (λ g i. h g (Memᴰ.tail i)) (λ d g a b i j. k d g a b (Memᴰ.tail i) (Memᴰ.tail j)))
      (λ a b i j. let o = each_mem l b j in k e o.one a b (Memᴰ.head refl) (Memᴰ.tail o.listed) (p.0 o.one o.listed) i o.mine)

pub each_append : {A B : Type 0} (f : A → List B) (l m : List A) → each f (l ++ m) ≡ each f l ++ each f m
unfolding each
each_append f [] m = refl
each_append f (a ∷ l) m = rw (each_append f l m) (sym (append_assoc (f a) (each f l) (each f m)))

pub each_each : {A B C : Type 0} (f : A → List B) (g : C → List A) (k : C → List B) → ((c : C) → each f (g c) ≡ k c) → (l : List C) → each f (each g l) ≡ each k l
unfolding each
each_each f g k h [] = refl
each_each f g k h (c ∷ l) = each_append f (g c) (each g l) ∙ ap₂ ◌++◌ (h c) (each_each f g k h l)
