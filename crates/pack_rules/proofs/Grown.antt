-- The bytes that digits give are walked as the digits say.
--     turns    walks that are those of descents, one after the other
--     read_as    bytes that have a descent's marks are walked as it is
--     once    a descent has one mark at a place
--     grown_there    its marks are there once they are put
--     map_walked    a whole picture's map by digits
--     reads    what is proved of every map that is read
-- Assumes nothing.
use Rattle.std.specs.Prelude.{Ok, Err}
use mathlib.Core.List.Memᴰ
use mathlib.Core.List.{List, [], ◌∷◌, ◌++◌, Memᴰ}
use mathlib.Core.Logic.{◌⊎◌, inl, inr, ⊎_elim}
use mathlib.Core.Path.{◌≡◌, refl, sym, ap, ap₂, ◌∙◌, subst}
use Prim.Native.Nat.{ℕ, zero, suc, ◌+◌, ◌*◌, ◌/◌, ◌%◌, ◌^◌, ◌≤◌, ◌<◌}
use native.Mathlib.Omega.{arith}
use lib.Dec.{eqb}
use lib.ListN.{length, get_or, replicate, length-replicate}
use Rattle.def.specs.Answers.{Answer}
use Rattle.def.specs.Answers.{after_checks}
use Rattle.def.specs.Picture.{size_ok, root_count}
use Rattle.def.specs.declared.Refusal.TheVariants.{Size, Length}
use Rattle.laws.specs.Orders.{Pairwise}
use Rattle.laws.proofs.Orders.{pairwise_append}
use Rattle.split.specs.Picture.{across, roots, root_bytes, root_x, root_y, root_walk, picture_walk}
use Rattle.split.specs.Walk.{Walk, and_then, in_turn, place, part, walk}
use Rattle.split.proofs.Outcomes.{past}
use Rattle.split.proofs.Walks.{not_done, both, turn_none, turn_more, walk_x, walk_y, walk_unit, walk_leaf, walk_cut}
use Rattle.marks_rules.specs.Descent.{Descent, descend_on, descend_then, descents, descend, root_descent}
use Rattle.marks_rules.specs.Marks.{Mark, mark, put_all}
use Rattle.marks_rules.specs.Pictures.{upto, root_by, root_map, map_of}
use Rattle.marks_rules.proofs.Blocks.{part_x, part_y, Rooted, part_rooted, by_start}
use Rattle.marks_rules.proofs.Descents.{part_of, descend_x, descend_y, descend_unit, descend_none, descend_leaf, descend_cut, descend_bad, unit_quiet, descents_none}
use Rattle.pack_rules.specs.Form.{digits_from}
use Rattle.pack_rules.specs.GetCall as get-call
use Rattle.pack_rules.specs.Kept.{Reads}
use Rattle.pack_rules.proofs.Owned.{Owns, owns_centre, owns_part, centre_no_part, parts_apart}
use Rattle.marks_rules.proofs.Pictures.{part_back}
use Rattle.marks_rules.proofs.Puts.{length_put, put_there, At}
use Rattle.marks_rules.proofs.Tidy.{tidy_grown}

-- ---- descents one after the other, of which none is refused

module _ (f : ℕ → List ℕ → Descent) where
  -- the i-th of them
  abbrev nth : List ℕ → ℕ → Descent
  nth ds i = f i (descents f i ds).left

  pub record Ends (n : ℕ) (ds : List ℕ) : Type 0 where
    pub first : (descents f n ds).walk.answer ≡ Ok tt
    pub last : (nth ds n).walk.answer ≡ Ok tt
    pub is : descents f (suc n) ds ≡ record { walk = and_then (descents f n ds).walk (nth ds n).walk; marks = (descents f n ds).marks ++ (nth ds n).marks; left = (nth ds n).left }

  pub ends : (n : ℕ) (ds : List ℕ) → (descents f (suc n) ds).walk.answer ≡ Ok tt → Ends n ds
  unfolding descents descend_on
  ends n ds d = by (descents f n ds).walk.answer refl d where
    by : (z : Answer) → (descents f n ds).walk.answer ≡ z → (descend_on z (descents f n ds) (f n)).walk.answer ≡ Ok tt → Ends n ds
    by (Ok _) e q =
        let b = both (descents f n ds).walk.answer (descents f n ds).walk.list (nth ds n).walk q in
        record { first = e; last = b.second; is = ap (λ (a : Answer). descend_on a (descents f n ds) (f n)) e }
    by (Err r) e q = absurd (not_done r (sym e ∙ q))

  pub turns : (v : ℕ → Walk) (n : ℕ) (ds : List ℕ) → (descents f n ds).walk.answer ≡ Ok tt
      → ((i : ℕ) → i < n → (nth ds i).walk.answer ≡ Ok tt → v i ≡ (nth ds i).walk) → in_turn v n ≡ (descents f n ds).walk
  turns v zero ds d e = turn_none v ∙ sym (ap (λ (a : Descent). a.walk) (descents_none f ds))
  turns v (suc n) ds d e =
      let g = ends n ds d in
      turn_more v n ∙ ap₂ and_then (turns v n ds g.first (λ i l. e i (omega arith))) (e n (omega arith) g.last) ∙ sym (ap (λ (a : Descent). a.walk) g.is)

  -- each one's marks are among all
  pub among : (n : ℕ) (ds : List ℕ) → (descents f n ds).walk.answer ≡ Ok tt → (i : ℕ) → i < n → (m : Mark) → Memᴰ m (nth ds i).marks → Memᴰ m (descents f n ds).marks
  among zero ds d i l m k = absurd (omega arith)
  among (suc n) ds d i l m k =
      let g = ends n ds d in
      subst (λ (a : Descent). Memᴰ m a.marks) (sym g.is) (by_last i n l
      (λ e. Memᴰ.append_right (descents f n ds).marks (subst (λ (j : ℕ). Memᴰ m (nth ds j).marks) e k))
      (λ q. Memᴰ.append_left (nth ds n).marks (among n ds g.first i q m k))) where
        by_last : (i n : ℕ) {P : Type 0} → i < suc n → (i ≡ n → P) → (i < n → P) → P
        by_last zero zero l a b = a refl
        by_last zero (suc n) l a b = b (omega arith)
        by_last (suc i) zero l a b = absurd (omega arith)
        by_last (suc i) (suc n) l a b = by_last i n (omega arith) (λ e. a (ap suc e)) (λ q. b (omega arith))

  -- and of them each has its maker
  pub record Maker (n : ℕ) (ds : List ℕ) (m : Mark) : Type 0 where
    pub number : ℕ
    pub below : number < n
    pub digits : List ℕ
    pub mine : Memᴰ m (f number digits).marks

  pub maker : (n : ℕ) (ds : List ℕ) (m : Mark) → Memᴰ m (descents f n ds).marks → Maker n ds m
  unfolding descents descend_on
  maker zero ds m k = absurd (Memᴰ.not-nil k)
  maker (suc n) ds m k = by (descents f n ds).walk.answer (maker n ds m) k where
    later : Maker n ds m → Maker (suc n) ds m
    later a = record { number = a.number; below = omega (arith, a.below); digits = a.digits; mine = a.mine }

    by : (z : Answer) → (Memᴰ m (descents f n ds).marks → Maker n ds m) → Memᴰ m (descend_on z (descents f n ds) (f n)).marks → Maker (suc n) ds m
    by (Ok _) g j =
        ⊎_elim (λ i. later (g i)) (λ i. record { number = n; below = omega arith; digits = (descents f n ds).left; mine = i })
        (Memᴰ.append_cases (descents f n ds).marks j)
    by (Err r) g j = later (g j)

-- ---- bytes that have the marks

module _ (w h : ℕ) (n : List ℕ) where
  abbrev Has : List Mark → Type 0
  Has l = (m : Mark) → Memᴰ m l → get_or n m.place 0 ≡ m.byte

  abbrev ReadAs : (k x y : ℕ) → Descent → Type 0
  ReadAs k x y a = a.walk.answer ≡ Ok tt → Has a.marks → walk n w h k x y ≡ a.walk

  via : (k x y : ℕ) {a b : Descent} → a ≡ b → ReadAs k x y b → ReadAs k x y a
  via k x y e r = subst (ReadAs k x y) (sym e) r

  pub read_as : (k x y : ℕ) (ds : List ℕ) → ReadAs k x y (descend w h k x y ds)
  read_as zero x y ds =
      by_start w h x y (ReadAs 0 x y (descend w h 0 x y ds))
      (λ p. via 0 x y (descend_x w h 0 x y ds p) (λ d g. walk_x n w h 0 x y p))
      (λ p q. via 0 x y (descend_y w h 0 x y ds p q) (λ d g. walk_y n w h 0 x y p q))
      (λ p q. via 0 x y (descend_unit w h x y ds p q) (λ d g. walk_unit n w h x y p q))
  read_as (suc k) x y ds =
      by_start w h x y (ReadAs (suc k) x y (descend w h (suc k) x y ds))
      (λ p. via (suc k) x y (descend_x w h (suc k) x y ds p) (λ d g. walk_x n w h (suc k) x y p))
      (λ p q. via (suc k) x y (descend_y w h (suc k) x y ds p q) (λ d g. walk_y n w h (suc k) x y p q))
      (λ p q. inside p q ds (λ l i z. read_as k (part_x k x i) (part_y k y i) z)) where
        inside : x < w → y < h → (ds : List ℕ) → ((l : List ℕ) (i : ℕ) (z : List ℕ) → ReadAs k (part_x k x i) (part_y k y i) (descend w h k (part_x k x i) (part_y k y i) z))
            → ReadAs (suc k) x y (descend w h (suc k) x y ds)
        inside p q [] f = via (suc k) x y (descend_none w h k x y p q) (λ d g. absurd (not_done _ d))
        inside p q (zero ∷ ds) f = via (suc k) x y (descend_leaf w h k x y ds p q) (λ d g. walk_leaf n w h k x y p q (g _ (Memᴰ.head refl)))
        inside p q (suc zero ∷ ds) f =
            via (suc k) x y (descend_cut w h k x y ds p q)
            (λ d g. walk_cut n w h k x y p q (g _ (Memᴰ.head refl))
            ∙ turns (part_of w h k x y) (part (walk n w h k) (2 ^ k) x y) 4 ds d
            (λ i l e. f ds i _ e (λ m u. g m (Memᴰ.tail (among (part_of w h k x y) 4 ds d i l m u)))))
        inside p q (suc (suc e) ∷ ds) f = via (suc k) x y (descend_bad w h k x y e ds p q) (λ d g. absurd (not_done _ d))

-- ---- one mark at a place

abbrev Apart : Mark → Mark → Type 0
Apart m n = m.place ≡ n.place → ⊥

module _ (w h X Y : ℕ) where
  abbrev AllOwned : (k x y : ℕ) → List Mark → Type 0
  AllOwned k x y l = (m : Mark) → Memᴰ m l → Owns k x y m.place

  pub owned : (k x y : ℕ) (ds : List ℕ) → Rooted X Y k x y → AllOwned k x y (descend w h k x y ds).marks
  owned zero x y ds r = λ m k. absurd (Memᴰ.not-nil (subst (Memᴰ m) (unit_quiet w h x y ds).none k))
  owned (suc k) x y ds r =
      by_start w h x y (AllOwned (suc k) x y (descend w h (suc k) x y ds).marks)
      (λ p. of (descend_x w h (suc k) x y ds p) (λ m i. absurd (Memᴰ.not-nil i)))
      (λ p q. of (descend_y w h (suc k) x y ds p q) (λ m i. absurd (Memᴰ.not-nil i)))
      (λ p q. inside p q ds (λ i z l. owned k (part_x k x i) (part_y k y i) z (part_rooted X Y k x y r i l))) where
        of : {a b : Descent} → a ≡ b → AllOwned (suc k) x y b.marks → AllOwned (suc k) x y a.marks
        of e o = subst (λ (d : Descent). AllOwned (suc k) x y d.marks) (sym e) o

        own : (b : ℕ) (l : List Mark) → AllOwned (suc k) x y l → AllOwned (suc k) x y (mark (place k x y) b ∷ l)
        own b l o m i = ⊎_elim (λ e. subst (λ (z : Mark). Owns (suc k) x y z.place) (sym e) (owns_centre X Y k x y r)) (o m) (Memᴰ.cases_cons i)

        inside : x < w → y < h → (ds : List ℕ) → ((i : ℕ) (z : List ℕ) → i < 4 → AllOwned k (part_x k x i) (part_y k y i) (descend w h k (part_x k x i) (part_y k y i) z).marks)
            → AllOwned (suc k) x y (descend w h (suc k) x y ds).marks
        inside p q [] f = of (descend_none w h k x y p q) (λ m i. absurd (Memᴰ.not-nil i))
        inside p q (zero ∷ ds) f = of (descend_leaf w h k x y ds p q) (own 0 [] (λ m i. absurd (Memᴰ.not-nil i)))
        inside p q (suc zero ∷ ds) f =
            of (descend_cut w h k x y ds p q)
            (own 1 _ (λ m i. let a = maker (part_of w h k x y) 4 ds m i in owns_part X Y k x y r a.number a.below m.place (f a.number a.digits a.below m a.mine)))
        inside p q (suc (suc e) ∷ ds) f = of (descend_bad w h k x y e ds p q) (λ m i. absurd (Memᴰ.not-nil i))

  -- the parts of a block that is cut: the marks of each are its own, and no place is two parts'
  module _ (k x y : ℕ) (r : Rooted X Y (suc k) x y) where
    part_owned : (i : ℕ) (z : List ℕ) → i < 4 → AllOwned k (part_x k x i) (part_y k y i) (part_of w h k x y i z).marks
    part_owned i z l = owned k (part_x k x i) (part_y k y i) z (part_rooted X Y k x y r i l)

    parts_once : ((i : ℕ) (z : List ℕ) → i < 4 → Pairwise Apart (part_of w h k x y i z).marks) → (n : ℕ) → n ≤ 4 → (ds : List ℕ)
        → Pairwise Apart (descents (part_of w h k x y) n ds).marks
    unfolding descents descend_on
    parts_once f zero l ds = tt
    parts_once f (suc n) l ds = by (descents (part_of w h k x y) n ds).walk.answer (parts_once f n (omega arith) ds) where
      by : (z : Answer) → Pairwise Apart (descents (part_of w h k x y) n ds).marks → Pairwise Apart (descend_on z (descents (part_of w h k x y) n ds) (part_of w h k x y n)).marks
      by (Ok _) g =
          pairwise_append Apart (descents (part_of w h k x y) n ds).marks (part_of w h k x y n (descents (part_of w h k x y) n ds).left).marks g (f n _ l)
          (λ m c i j e.
          let a = maker (part_of w h k x y) n ds m i in
          parts_apart X Y k x y r a.number n a.below l m.place (part_owned a.number a.digits (omega (arith, a.below)) m a.mine)
          (subst (Owns k (part_x k x n) (part_y k y n)) (sym e) (part_owned n _ l c j)))
      by (Err q) g = g

  pub once : (k x y : ℕ) (ds : List ℕ) → Rooted X Y k x y → Pairwise Apart (descend w h k x y ds).marks
  once zero x y ds r = subst (Pairwise Apart) (sym (unit_quiet w h x y ds).none) tt
  once (suc k) x y ds r =
      by_start w h x y (Pairwise Apart (descend w h (suc k) x y ds).marks)
      (λ p. of (descend_x w h (suc k) x y ds p) tt)
      (λ p q. of (descend_y w h (suc k) x y ds p q) tt)
      (λ p q. inside p q ds (λ i z l. once k (part_x k x i) (part_y k y i) z (part_rooted X Y k x y r i l))) where
        of : {a b : Descent} → a ≡ b → Pairwise Apart b.marks → Pairwise Apart a.marks
        of e o = subst (λ (d : Descent). Pairwise Apart d.marks) (sym e) o

        inside : x < w → y < h → (ds : List ℕ) → ((i : ℕ) (z : List ℕ) → i < 4 → Pairwise Apart (part_of w h k x y i z).marks) → Pairwise Apart (descend w h (suc k) x y ds).marks
        inside p q [] f = of (descend_none w h k x y p q) tt
        inside p q (zero ∷ ds) f = of (descend_leaf w h k x y ds p q) ((λ m i. absurd (Memᴰ.not-nil i)), tt)
        inside p q (suc zero ∷ ds) f =
            of (descend_cut w h k x y ds p q) (
              (λ m i e.
                  let a = maker (part_of w h k x y) 4 ds m i in
                  centre_no_part X Y k x y r (part_x k x a.number) (part_y k y a.number)
                  (subst (Owns k (part_x k x a.number) (part_y k y a.number)) (sym e) (part_owned k x y r a.number a.digits a.below m a.mine))),
              parts_once k x y r f 4 (omega arith) ds,
            )
        inside p q (suc (suc e) ∷ ds) f = of (descend_bad w h k x y e ds p q) tt

-- so two at one place have one byte
one_byte : (l : List Mark) → Pairwise Apart l → (m n : Mark) → Memᴰ m l → Memᴰ n l → m.place ≡ n.place → m.byte ≡ n.byte
one_byte [] a m n i j e = absurd (Memᴰ.not-nil i)
one_byte (c ∷ l) a m n i j e =
    ⊎_elim
    (λ u. ⊎_elim (λ v. ap (λ (z : Mark). z.byte) (u ∙ sym v)) (λ v. absurd (a.0 n v (sym (ap (λ (z : Mark). z.place) u) ∙ e))) (Memᴰ.cases_cons j))
    (λ u. ⊎_elim (λ v. absurd (a.0 m u (sym (ap (λ (z : Mark). z.place) v) ∙ sym e))) (λ v. one_byte l a.1 m n u v e) (Memᴰ.cases_cons j))
    (Memᴰ.cases_cons i)

-- ---- a root, and a picture

module _ (w h : ℕ) (ds : List ℕ) where
  zeros_long : length {A = ℕ} (replicate 1024 0) ≡ 1024
  zeros_long = length-replicate {A = ℕ} 1024 0

  pub grown_there : (i : ℕ) (m : Mark) → Memᴰ m (root_descent w h i ds).marks → get_or (put_all (root_descent w h i ds).marks (replicate 1024 0)) m.place 0 ≡ m.byte
  grown_there i m k =
      let l = (root_descent w h i ds).marks in
      let X = i % across w in
      let Y = i / across w in
      let r : Rooted X Y 4 (root_x w i) (root_y w i) = record { deep = omega arith; column = omega arith; row = omega arith; right = omega arith; bottom = omega arith } in
      put_there m.place m.byte l (replicate 1024 0)
      (subst (λ (n : ℕ). m.place < n) (sym zeros_long) (tidy_grown w h 4 (root_x w i) (root_y w i) ds m k).inside)
      (λ n j e. one_byte l (once w h X Y 4 (root_x w i) (root_y w i) ds r) n m j k e) (inr (record { one = m; listed = k; there = refl }))

module _ (w h : ℕ) (ds : List ℕ) (d : (upto w h ds (roots w h)).walk.answer ≡ Ok tt) where
  pub map_walked : picture_walk (map_of w h ds) w h ≡ (upto w h ds (roots w h)).walk
  map_walked =
      turns (root_descent w h) (root_walk (map_of w h ds) w h) (roots w h) ds d
      (λ i l e.
      let b = part_back (root_map w h ds) (roots w h) (λ j m. length_put (root_by w h ds j).marks (replicate 1024 0) ∙ zeros_long w h ds) i l in
      ap (λ (z : List ℕ). walk z w h 4 (root_x w i) (root_y w i)) b
      ∙ read_as w h (root_map w h ds i) 4 (root_x w i) (root_y w i) (upto w h ds i).left e (grown_there w h (upto w h ds i).left i))

-- ---- the call

-- the descent of a call that is not refused ends
descent_done : (a k : Answer) → after_checks Err k a ≡ Ok tt → a ≡ Ok tt
descent_done (Ok _) k e = refl
descent_done (Err r) k e = absurd (not_done r e)

pub reads : (i : get-call.Input) → get-call.check i ≡ Ok tt → Reads i
unfolding get-call.check get-call.outcome
reads i e =
    let a = past (size_ok i.w i.h) Size _ e in
    let b = past (eqb (length i.map) (1024 * root_count i.w i.h)) Length _ a.1 in
    let d = descent_done (get-call.descent i).walk.answer _ b.1 in
    let m : (get-call.outcome i).map ≡ map_of (i.w / 4) (i.h / 4) (digits_from i.src i.at) = ap (λ (z : Answer). (after_checks (get-call.refused i) (get-call.done i) z).map) e in
    let w = ap (λ (s : List ℕ). picture_walk s (i.w / 4) (i.h / 4)) m ∙ map_walked (i.w / 4) (i.h / 4) (digits_from i.src i.at) d in
    record { walked = w; accepted = ap (λ (v : Walk). v.answer) w ∙ d }
