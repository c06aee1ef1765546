-- The descent by digits: its equations, and what it makes of the digits of a map.
--     descend_x, descend_y, descend_unit, descend_leaf, descend_cut, descend_none    each way through it
--     descents_none, descents_more, then_done, then_stop    descents one after the other
--     in_turn_lem    descents that are each walked to the end by their digits
--     unit_quiet, all_quiet    units take no digit and make no mark
--     few_grown, few_descents    at most 85 marks a root
--     descents_stop    a descent that is refused ends those in turn
--     descend_take, descents_take    a descent that is not refused takes a digit for each mark
--     read-back    the digits of bytes that are walked to the end give their walk and their marks, and leave what follows them
-- Assumes nothing.
use Rattle.std.specs.Prelude.{Ok, Err}
use mathlib.Core.List.{List, [], ◌∷◌, ◌++◌, map, append_assoc}
use mathlib.Core.Path.{◌≡◌, refl, sym, ap, ◌∙◌, subst}
use Prim.Native.Nat.{ℕ, zero, suc, ◌+◌, ◌*◌, ◌/◌, ◌%◌, ◌^◌, ◌≤◌, ◌<◌}
use native.Mathlib.Nat.{add-zero, add-suc, suc-mul}
use native.Mathlib.Numerals.{add-one}
use native.Mathlib.Omega.{arith}
use borrow.Author.Tests.{le-ltb, lt-ltb}
use lib.Dec.{ltb}
use lib.ListN.{length, drop, length-append}
use lib.Seq.{drop-drop}
use Rattle.def.specs.Answers.{Answer}
use Rattle.def.specs.declared.Refusal.{Refusal}
use Rattle.laws.specs.Index.{pick}
use Rattle.split.specs.Walk.{Walk, nothing, and_then, in_turn, leaf_walk, by_byte, place, part, walk}
use Rattle.split.proofs.Walks.{not_done, turn_none, turn_more, turn_done, each_done, walk_x, walk_y, walk_unit, walk_leaf, walk_cut, walk_bad, onward_done, leaf_in_lem}
use Rattle.marks_rules.specs.Descent.{Descent, grown, descend_on, descend_then, descents, run_out, part_by, after, descend}
use Rattle.marks_rules.specs.Marks.{Mark, mark, four, marks, byte_of, bytes, blocks_in}
use Rattle.marks_rules.specs.Pictures.{joined}
use Rattle.marks_rules.proofs.Blocks.{part_x, part_y, by_start, by_byte_lem}
use Rattle.marks_rules.proofs.Marks.{parts, marks_x, marks_y, marks_unit, marks_leaf, marks_cut}

-- ---- the descent

module _ (w h : ℕ) where
  pub descend_x : (k x y : ℕ) (ds : List ℕ) → w ≤ x → descend w h k x y ds ≡ grown nothing [] ds
  unfolding descend
  descend_x zero x y ds p = simp (le-ltb x w p)
  descend_x (suc k) x y ds p = simp (le-ltb x w p)

  pub descend_y : (k x y : ℕ) (ds : List ℕ) → x < w → h ≤ y → descend w h k x y ds ≡ grown nothing [] ds
  unfolding descend
  descend_y zero x y ds p q = simp (lt-ltb x w p, le-ltb y h q)
  descend_y (suc k) x y ds p q = simp (lt-ltb x w p, le-ltb y h q)

  pub descend_unit : (x y : ℕ) (ds : List ℕ) → x < w → y < h → descend w h 0 x y ds ≡ grown (leaf_walk w h 1 x y) [] ds
  unfolding descend
  descend_unit x y ds p q = simp (lt-ltb x w p, lt-ltb y h q)

  pub descend_none : (k x y : ℕ) → x < w → y < h → descend w h (suc k) x y [] ≡ run_out
  unfolding descend
  descend_none k x y p q = simp (lt-ltb x w p, lt-ltb y h q)

  pub descend_leaf : (k x y : ℕ) (ds : List ℕ) → x < w → y < h
      → descend w h (suc k) x y (0 ∷ ds) ≡ grown (leaf_walk w h (2 ^ suc k) x y) (mark (place k x y) 0 ∷ []) ds
  unfolding descend by_byte
  descend_leaf k x y ds p q = simp (lt-ltb x w p, lt-ltb y h q)

  pub descend_bad : (k x y d : ℕ) (ds : List ℕ) → x < w → y < h → descend w h (suc k) x y (suc (suc d) ∷ ds) ≡ run_out
  unfolding descend by_byte
  descend_bad k x y d ds p q = simp (lt-ltb x w p, lt-ltb y h q)

  -- part n of a block that is cut
  abbrev pub part_of : (k x y n : ℕ) → List ℕ → Descent
  part_of k x y = part_by (descend w h k) (2 ^ k) x y

  pub descend_cut : (k x y : ℕ) (ds : List ℕ) → x < w → y < h
      → descend w h (suc k) x y (1 ∷ ds) ≡ after (mark (place k x y) 1) (descents (part_of k x y) 4 ds)
  unfolding descend by_byte
  descend_cut k x y ds p q = simp (lt-ltb x w p, lt-ltb y h q)

-- ---- descents one after the other

module _ (f : ℕ → List ℕ → Descent) where
  pub descents_none : (ds : List ℕ) → descents f 0 ds ≡ grown nothing [] ds
  unfolding descents
  descents_none ds = refl

  pub descents_more : (n : ℕ) (ds : List ℕ) → descents f (suc n) ds ≡ descend_then (descents f n ds) (f n)
  unfolding descents
  descents_more n ds = refl

pub then_done : (a : Descent) (g : List ℕ → Descent) (b : Descent) → a.walk.answer ≡ Ok tt → g a.left ≡ b
    → descend_then a g ≡ grown (and_then a.walk b.walk) (a.marks ++ b.marks) b.left
unfolding descend_on
then_done a g b d e =
    ap (λ (z : Answer). descend_on z a g) d ∙ ap (λ (z : Descent). grown (and_then a.walk z.walk) (a.marks ++ z.marks) z.left) e

pub then_stop : (a : Descent) (g : List ℕ → Descent) (r : Refusal) → a.walk.answer ≡ Err r → descend_then a g ≡ a
unfolding descend_on
then_stop a g r d = ap (λ (z : Answer). descend_on z a g) d

-- ---- bytes of marks

pub bytes_append : (l k : List Mark) → bytes (l ++ k) ≡ bytes l ++ bytes k
bytes_append [] k = refl
bytes_append (m ∷ l) k = ap (λ (r : List ℕ). m.byte ∷ r) (bytes_append l k)

pub joined_four : (l : ℕ → List Mark) → joined l 4 ≡ four l
unfolding joined
joined_four l = regroup (l 0) (l 1) (l 2) (l 3) where
  regroup : (a b c d : List Mark) → ((([] ++ a) ++ b) ++ c) ++ d ≡ a ++ (b ++ (c ++ d))
  regroup a b c d = simp append_assoc

pub all_done_lem : (f : ℕ → Walk) (n : ℕ) → ((i : ℕ) → i < n → (f i).answer ≡ Ok tt) → (in_turn f n).answer ≡ Ok tt
all_done_lem f zero h = ap (λ (v : Walk). v.answer) (turn_none f)
all_done_lem f (suc n) h =
    subst (λ (k : ℕ). (in_turn f k).answer ≡ Ok tt) (add-one n) (turn_done f n (all_done_lem f n (λ i l. h i (omega arith))) (h n (omega arith)))

-- ---- descents that are each walked to the end: v i is the walk of f i, and l i its marks

module _ (f : ℕ → List ℕ → Descent) (l : ℕ → List Mark) (v : ℕ → Walk) where
  pub in_turn_lem : (n : ℕ) → ((i : ℕ) → i < n → (v i).answer ≡ Ok tt) → ((i : ℕ) → i < n → (r : List ℕ) → f i (bytes (l i) ++ r) ≡ grown (v i) (l i) r)
      → (r : List ℕ) → descents f n (bytes (joined l n) ++ r) ≡ grown (in_turn v n) (joined l n) r
  unfolding joined
  in_turn_lem zero d e r = descents_none f r ∙ ap (λ (z : Walk). grown z [] r) (sym (turn_none v))
  in_turn_lem (suc n) d e r =
      let z : bytes (joined l n ++ l n) ++ r ≡ bytes (joined l n) ++ (bytes (l n) ++ r) = simp (bytes_append, append_assoc) in
      let i = in_turn_lem n (λ j k. d j (omega arith)) (λ j k. e j (omega arith)) (bytes (l n) ++ r) in
      let q = all_done_lem v n (λ j k. d j (omega arith)) in
      descents_more f n _
      ∙ ap (λ (a : Descent). descend_then a (f n)) (ap (descents f n) z ∙ i)
      ∙ then_done (grown (in_turn v n) (joined l n) (bytes (l n) ++ r)) (f n) (grown (v n) (l n) r) q (e n (omega arith) r)
      ∙ ap (λ (u : Walk). grown u (joined l n ++ l n) r) (sym (turn_more v n))

-- ---- the digits of bytes that are walked to the end

module _ (s : List ℕ) (w h : ℕ) where
  abbrev own : (k x y : ℕ) → List Mark
  own k x y = marks (byte_of s) w h k x y

  abbrev Back : (k x y : ℕ) → List ℕ → Type 0
  Back k x y r = descend w h k x y (bytes (own k x y) ++ r) ≡ grown (walk s w h k x y) (own k x y) r

  back : (v : Walk) (l : List Mark) (k x y : ℕ) (r : List ℕ) → walk s w h k x y ≡ v → own k x y ≡ l → descend w h k x y (bytes l ++ r) ≡ grown v l r → Back k x y r
  back v l k x y r e f g = rw (e, f) g

  pub read_back : (k x y : ℕ) (r : List ℕ) → (walk s w h k x y).answer ≡ Ok tt → Back k x y r
  read_back zero x y r d =
      by_start w h x y (Back 0 x y r)
      (λ p. back _ _ 0 x y r (walk_x s w h 0 x y p) (marks_unit (byte_of s) w h x y) (descend_x w h 0 x y r p))
      (λ p q. back _ _ 0 x y r (walk_y s w h 0 x y p q) (marks_unit (byte_of s) w h x y) (descend_y w h 0 x y r p q))
      (λ p q. back _ _ 0 x y r (walk_unit s w h x y p q) (marks_unit (byte_of s) w h x y) (descend_unit w h x y r p q))
  read_back (suc k) x y r d =
      by_start w h x y (Back (suc k) x y r)
      (λ p. back _ _ (suc k) x y r (walk_x s w h (suc k) x y p) (marks_x (byte_of s) w h (suc k) x y p) (descend_x w h (suc k) x y r p))
      (λ p q. back _ _ (suc k) x y r (walk_y s w h (suc k) x y p q) (marks_y (byte_of s) w h (suc k) x y p q) (descend_y w h (suc k) x y r p q))
      (λ p q. by_byte_lem (byte_of s k x y) (Back (suc k) x y r)
      (λ e. back _ _ (suc k) x y r (walk_leaf s w h k x y p q e) (marks_leaf (byte_of s) w h k x y p q e) (descend_leaf w h k x y r p q))
      (λ e.
      let f = part (walk s w h k) (2 ^ k) x y in
      let g = parts (byte_of s) w h k x y in
      let m = mark (place k x y) 1 in
      let t : (in_turn f 4).answer ≡ (Ok tt) = sym (ap (λ (v : Walk). v.answer) (walk_cut s w h k x y p q e)) ∙ d in
      let i = in_turn_lem (part_of w h k x y) g f 4 (each_done f 4 t) (λ n l z. read_back k (part_x k x n) (part_y k y n) z (each_done f 4 t n l)) r in
      back _ _ (suc k) x y r (walk_cut s w h k x y p q e) (marks_cut (byte_of s) w h k x y p q e)
      (descend_cut w h k x y (bytes (four g) ++ r) p q ∙ ap (after m) (rw joined_four at i)))
      (λ b. absurd (not_done _ (sym (ap (λ (v : Walk). v.answer) (walk_bad s w h k x y p q b)) ∙ d))))

-- ---- units, and how many marks there are at most

-- a descent that takes no digit and makes no mark
pub record Quiet (a : Descent) (ds : List ℕ) : Type 0 where
  pub done : a.walk.answer ≡ Ok tt
  pub none : a.marks ≡ []
  pub left : a.left ≡ ds

quiet : {a b : Descent} {ds : List ℕ} → a ≡ b → Quiet b ds → Quiet a ds
quiet {ds = ds} e q = subst (λ (z : Descent). Quiet z ds) (sym e) q

pub unit_quiet : (w h x y : ℕ) (ds : List ℕ) → Quiet (descend w h 0 x y ds) ds
unit_quiet w h x y ds =
    by_start w h x y (Quiet (descend w h 0 x y ds) ds)
    (λ p. quiet (descend_x w h 0 x y ds p) (record { done = refl; none = refl; left = refl }))
    (λ p q. quiet (descend_y w h 0 x y ds p q) (record { done = refl; none = refl; left = refl }))
    (λ p q. quiet (descend_unit w h x y ds p q)
    (record { done = ap (λ (v : Walk). v.answer) (leaf_in_lem w h 1 x y (omega arith) (omega arith)); none = refl; left = refl }))

pub all_quiet : (f : ℕ → List ℕ → Descent) → ((i : ℕ) (ds : List ℕ) → Quiet (f i ds) ds) → (n : ℕ) (ds : List ℕ) → Quiet (descents f n ds) ds
all_quiet f q zero ds = quiet (descents_none f ds) (record { done = refl; none = refl; left = refl })
all_quiet f q (suc n) ds =
    let a = all_quiet f q n ds in
    let b = q n ds in
    quiet (descents_more f n ds ∙ then_done (descents f n ds) (f n) (f n ds) a.done (ap (f n) a.left))
    (record {
      done = ap (λ (v : Walk). v.answer) (onward_done (descents f n ds).walk.answer (descents f n ds).walk.list (f n ds).walk a.done) ∙ b.done;
      none = rw (a.none, b.none);
      left = b.left;
    })

few_then : (a : Descent) (g : List ℕ → Descent) (m n : ℕ) → length a.marks ≤ m → ((ds : List ℕ) → length (g ds).marks ≤ n) → length (descend_then a g).marks ≤ m + n
unfolding descend_on
few_then a g m n p q = by a.walk.answer where
  by : (z : Answer) → length (descend_on z a g).marks ≤ m + n
  by (Ok _) = let r = q a.left in omega (arith, length-append a.marks (g a.left).marks)
  by (Err r) = omega arith

pub few_descents : (f : ℕ → List ℕ → Descent) (m : ℕ) → ((i : ℕ) (ds : List ℕ) → length (f i ds).marks ≤ m) → (n : ℕ) (ds : List ℕ) → length (descents f n ds).marks ≤ n * m
unfolding descents
few_descents f m q zero ds = omega arith
few_descents f m q (suc n) ds =
    let a = few_then (descents f n ds) (f n) (n * m) m (few_descents f m q n ds) (q n) in
    omega (arith, suc-mul n m)

pub few_grown : (w h k x y : ℕ) (ds : List ℕ) → length (descend w h k x y ds).marks ≤ blocks_in k
unfolding blocks_in
few_grown w h zero x y ds = let q = (unit_quiet w h x y ds).none in rw q (omega arith)
few_grown w h (suc k) x y ds =
    by_start w h x y (length (descend w h (suc k) x y ds).marks ≤ 1 + 4 * blocks_in k)
    (λ p. rw (descend_x w h (suc k) x y ds p) (omega arith))
    (λ p q. rw (descend_y w h (suc k) x y ds p q) (omega arith))
    (λ p q. inside p q ds (few_descents (part_of w h k x y) (blocks_in k) (λ i l. few_grown w h k (part_x k x i) (part_y k y i) l) 4)) where
      inside : x < w → y < h → (ds : List ℕ) → ((l : List ℕ) → length (descents (part_of w h k x y) 4 l).marks ≤ 4 * blocks_in k)
          → length (descend w h (suc k) x y ds).marks ≤ 1 + 4 * blocks_in k
      inside p q [] f = rw (descend_none w h k x y p q) (omega arith)
      inside p q (zero ∷ ds) f = rw (descend_leaf w h k x y ds p q) (omega arith)
      inside p q (suc zero ∷ ds) f = let r = f ds in rw (descend_cut w h k x y ds p q) (omega arith)
      inside p q (suc (suc d) ∷ ds) f = rw (descend_bad w h k x y d ds p q) (omega arith)

-- a descent that is refused ends those in turn
pub descents_stop : (f : ℕ → List ℕ → Descent) (n m : ℕ) (r : Refusal) (ds : List ℕ) → (descents f n ds).walk.answer ≡ Err r → descents f (n + m) ds ≡ descents f n ds
descents_stop f n zero r ds e = rw add-zero
descents_stop f n (suc m) r ds e =
    let i = descents_stop f n m r ds e in
    rw add-suc (descents_more f (n + m) ds ∙ ap (λ (a : Descent). descend_then a (f (n + m))) i ∙ then_stop (descents f n ds) (f (n + m)) r e)

-- ---- a descent that is not refused takes a digit for each mark

module _ (ds : List ℕ) where
  abbrev Takes : Descent → Type 0
  Takes a = a.walk.answer ≡ Ok tt → a.left ≡ drop (length a.marks) ds

  takes : {a b : Descent} → a ≡ b → Takes b → Takes a
  takes e t = subst Takes (sym e) t

then_takes : (ds : List ℕ) (a : Descent) (g : List ℕ → Descent) → Takes ds a → ((l : List ℕ) → Takes l (g l)) → Takes ds (descend_then a g)
unfolding descend_on
then_takes ds a g t u = by a.walk.answer refl where
  by : (z : Answer) → a.walk.answer ≡ z → Takes ds (descend_on z a g)
  by (Ok _) e q =
      let b = g a.left in
      let d : b.walk.answer ≡ (Ok tt) = sym (ap (λ (v : Walk). v.answer) (onward_done a.walk.answer a.walk.list b.walk e)) ∙ q in
      u a.left d ∙ ap (drop (length b.marks)) (t e) ∙ drop-drop (length b.marks) (length a.marks) ds
      ∙ ap (λ (n : ℕ). drop n ds) (sym (length-append a.marks b.marks))
  by (Err r) e q = t q

pub descents_take : (f : ℕ → List ℕ → Descent) → ((i : ℕ) (l : List ℕ) → Takes l (f i l)) → (n : ℕ) (ds : List ℕ) → Takes ds (descents f n ds)
unfolding descents
descents_take f t zero ds = λ q. refl
descents_take f t (suc n) ds = then_takes ds (descents f n ds) (f n) (descents_take f t n ds) (t n)

pub descend_take : (w h k x y : ℕ) (ds : List ℕ) → Takes ds (descend w h k x y ds)
descend_take w h zero x y ds = let q = unit_quiet w h x y ds in λ d. q.left ∙ ap (λ (l : List Mark). drop (length l) ds) (sym q.none)
descend_take w h (suc k) x y ds =
    by_start w h x y (Takes ds (descend w h (suc k) x y ds))
    (λ p. takes ds (descend_x w h (suc k) x y ds p) (λ q. refl))
    (λ p q. takes ds (descend_y w h (suc k) x y ds p q) (λ d. refl))
    (λ p q. inside p q ds (λ l. descents_take (part_of w h k x y) (λ i m. descend_take w h k (part_x k x i) (part_y k y i) m) 4 l)) where
      inside : x < w → y < h → (ds : List ℕ) → ((l : List ℕ) → Takes l (descents (part_of w h k x y) 4 l)) → Takes ds (descend w h (suc k) x y ds)
      inside p q [] f = takes [] (descend_none w h k x y p q) (λ d. refl)
      inside p q (zero ∷ ds) f = takes (0 ∷ ds) (descend_leaf w h k x y ds p q) (λ d. refl)
      inside p q (suc zero ∷ ds) f = takes (1 ∷ ds) (descend_cut w h k x y ds p q) (f ds)
      inside p q (suc (suc d) ∷ ds) f = takes (suc (suc d) ∷ ds) (descend_bad w h k x y d ds p q) (λ e. absurd (not_done _ e))
