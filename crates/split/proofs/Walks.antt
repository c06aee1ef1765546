-- The walk's equations, one for each way through it, and walks one after the other.
--     not_done    a refusal is not done
--     onward_done, onward_stop, turn_more, turn_stop, turn_done, turn_refused    a walk, and then another
--     each_done, four    walks in turn of which none is refused
--     walk_x, walk_y, walk_unit, walk_leaf, walk_cut, walk_bad, leaf_in_lem, leaf_x, leaf_y
--     few_in_turn, few_leaves    how many leaves there are at most
-- Assumes nothing.
use Rattle.std.specs.Prelude.{Ok, Err}
use mathlib.Core.Bool.{Bool, true, false}
use mathlib.Core.Path.{◌≡◌, refl, sym, ap, ap₂, ◌∙◌, subst}
use mathlib.Core.List.{List, [], ◌∷◌, ◌++◌, append_assoc}
use mathlib.Core.Logic.{⊎_elim}
use Prim.Native.Nat.{ℕ, zero, suc, ◌+◌, ◌-◌, ◌*◌, ◌^◌, ◌≤◌, ◌<◌, zero-le}
use native.Mathlib.Nat.{add-zero, add-suc, not-suc-le-zero, eq-or-lt_of_le, le_of_suc-le-suc, two-pow-succ, mul-pos, suc-mul}
use native.Mathlib.Numerals.{add-one}
use native.Mathlib.Omega.{arith}
use borrow.Author.Tests.{le-ltb, lt-ltb, le-leb, lt-leb}
use lib.Dec.{ltb, leb}
use lib.ListN.{length, get_or, length-append}
use lib.Pow.{pow_pos}
use Rattle.def.specs.Answers.{Answer}
use Rattle.def.specs.declared.Refusal.{Refusal}
use Rattle.def.specs.declared.Refusal.TheVariants.{Split, Leaf as PastPicture}
use Rattle.laws.specs.Call.{unless}
use Rattle.laws.specs.Index.{pick}
use Rattle.split.specs.Walk.{Leaf, leaf, Walk, met, nothing, onward, and_then, in_turn, leaf_walk, by_byte, place, part, walk}

pub not_done : (r : Refusal) → ◌≡◌ {A = Answer} (Err r) (Ok tt) → ⊥
not_done r e = let z : ◌≡◌ {A = ℕ} 0 1 = cc in omega arith

-- ---- a walk, and then another

pub onward_done : (a : Answer) (l : List Leaf) (b : Walk) → a ≡ Ok tt → onward a l b ≡ met (l ++ b.list) b.answer
unfolding onward
onward_done a l b e = rw e

pub onward_stop : (a : Answer) (l : List Leaf) (b : Walk) (r : Refusal) → a ≡ Err r → onward a l b ≡ met l (Err r)
unfolding onward
onward_stop a l b r e = rw e

pub record Both (a : Answer) (l : List Leaf) (b : Walk) : Type 0 where
  pub first : a ≡ Ok tt
  pub second : b.answer ≡ Ok tt
  pub joined : (onward a l b).list ≡ l ++ b.list

pub both : (a : Answer) (l : List Leaf) (b : Walk) → (onward a l b).answer ≡ Ok tt → Both a l b
unfolding onward
both (Ok _) l b e = record { first = refl; second = e; joined = refl }
both (Err r) l b e = absurd (not_done r e)

-- ---- walks in turn

pub turn_none : (f : ℕ → Walk) → in_turn f 0 ≡ nothing
unfolding in_turn
turn_none f = refl

pub turn_more : (f : ℕ → Walk) (n : ℕ) → in_turn f (suc n) ≡ and_then (in_turn f n) (f n)
unfolding in_turn
turn_more f n = refl

-- once one is refused, that is all
pub turn_stop : (f : ℕ → Walk) (n m : ℕ) (r : Refusal) → (in_turn f n).answer ≡ Err r → in_turn f (n + m) ≡ in_turn f n
turn_stop f n zero r e = rw add-zero
turn_stop f n (suc m) r e =
    let i = turn_stop f n m r e in
    rw add-suc (turn_more f (n + m) ∙ onward_stop _ _ (f (n + m)) r (ap (λ (v : Walk). v.answer) i ∙ e) ∙ stays (in_turn f (n + m)) (ap (λ (v : Walk). v.answer) i ∙ e) ∙ i)
  where
    stays : (v : Walk) → v.answer ≡ Err r → met v.list (Err r) ≡ v
    stays v q i = record { list = v.list; answer = sym q i }

-- one more
turn_answer : (f : ℕ → Walk) (i : ℕ) (a : Answer) → (in_turn f i).answer ≡ Ok tt → (f i).answer ≡ a → (in_turn f (suc i)).answer ≡ a
turn_answer f i a p q = ap (λ (v : Walk). v.answer) (turn_more f i ∙ onward_done _ (in_turn f i).list (f i) p) ∙ q

pub turn_done : (f : ℕ → Walk) (i : ℕ) → (in_turn f i).answer ≡ Ok tt → (f i).answer ≡ Ok tt → (in_turn f (i + 1)).answer ≡ Ok tt
turn_done f i p q = rw (add-one i) (turn_answer f i (Ok tt) p q)

pub turn_refused : (f : ℕ → Walk) (i n : ℕ) (r : Refusal) → i < n → (in_turn f i).answer ≡ Ok tt → (f i).answer ≡ Err r → (in_turn f n).answer ≡ Err r
turn_refused f i n r l p q =
    let e = turn_answer f i (Err r) p q in
    let j : suc i + (n - suc i) ≡ n = omega arith in
    ap (λ (k : ℕ). (in_turn f k).answer) (sym j) ∙ ap (λ (v : Walk). v.answer) (turn_stop f (suc i) (n - suc i) r e) ∙ e

last : (f : ℕ → Walk) (n : ℕ) → (in_turn f (suc n)).answer ≡ Ok tt → Both (in_turn f n).answer (in_turn f n).list (f n)
unfolding in_turn
last f n e = both _ _ _ e

pub each_done : (f : ℕ → Walk) (n : ℕ) → (in_turn f n).answer ≡ Ok tt → (i : ℕ) → i < n → (f i).answer ≡ Ok tt
each_done f zero e i l = absurd (not-suc-le-zero l)
each_done f (suc n) e i l =
    let b = last f n e in
    ⊎_elim (λ q. subst (λ (j : ℕ). (f j).answer ≡ Ok tt) (sym q) b.second) (λ g. each_done f n b.first i g) (eq-or-lt_of_le (le_of_suc-le-suc l))

pub record Four (f : ℕ → Walk) : Type 0 where
  pub done₀ : (f 0).answer ≡ Ok tt
  pub done₁ : (f 1).answer ≡ Ok tt
  pub done₂ : (f 2).answer ≡ Ok tt
  pub done₃ : (f 3).answer ≡ Ok tt
  pub joined : (in_turn f 4).list ≡ (f 0).list ++ ((f 1).list ++ ((f 2).list ++ (f 3).list))

pub four : (f : ℕ → Walk) → (in_turn f 4).answer ≡ Ok tt → Four f
unfolding in_turn
four f e =
    let b₃ = both _ _ (f 3) e in
    let b₂ = both _ _ (f 2) b₃.first in
    let b₁ = both _ _ (f 1) b₂.first in
    let b₀ = both _ _ (f 0) b₁.first in
    record {
      done₀ = b₀.second;
      done₁ = b₁.second;
      done₂ = b₂.second;
      done₃ = b₃.second;
      joined = rw (b₃.joined, b₂.joined, b₁.joined, b₀.joined) (simp append_assoc);
    }

-- ---- the walk's equations

module _ (s : List ℕ) (w h : ℕ) where
  pub walk_x : (k x y : ℕ) → w ≤ x → walk s w h k x y ≡ nothing
  unfolding walk
  walk_x zero x y p = simp (le-ltb x w p)
  walk_x (suc k) x y p = simp (le-ltb x w p)

  pub walk_y : (k x y : ℕ) → x < w → h ≤ y → walk s w h k x y ≡ nothing
  unfolding walk
  walk_y zero x y p q = simp (lt-ltb x w p, le-ltb y h q)
  walk_y (suc k) x y p q = simp (lt-ltb x w p, le-ltb y h q)

  pub walk_unit : (x y : ℕ) → x < w → y < h → walk s w h 0 x y ≡ leaf_walk w h 1 x y
  unfolding walk
  walk_unit x y p q = simp (lt-ltb x w p, lt-ltb y h q)

  byte : (b k x y : ℕ) → x < w → y < h → get_or s (place k x y) 0 ≡ b
      → walk s w h (suc k) x y ≡ by_byte b (leaf_walk w h (2 ^ suc k) x y) (in_turn (part (walk s w h k) (2 ^ k) x y) 4) (met [] (Err Split))
  unfolding walk
  byte b k x y p q e = simp (lt-ltb x w p, lt-ltb y h q, e)

  pub walk_leaf : (k x y : ℕ) → x < w → y < h → get_or s (place k x y) 0 ≡ 0 → walk s w h (suc k) x y ≡ leaf_walk w h (2 ^ suc k) x y
  unfolding by_byte
  walk_leaf k x y p q e = byte 0 k x y p q e

  pub walk_cut : (k x y : ℕ) → x < w → y < h → get_or s (place k x y) 0 ≡ 1 → walk s w h (suc k) x y ≡ in_turn (part (walk s w h k) (2 ^ k) x y) 4
  unfolding by_byte
  walk_cut k x y p q e = byte 1 k x y p q e

  pub walk_bad : (k x y : ℕ) → x < w → y < h → 1 < get_or s (place k x y) 0 → walk s w h (suc k) x y ≡ met [] (Err Split)
  unfolding by_byte
  walk_bad k x y p q e = go (get_or s (place k x y) 0) refl e
    where
      go : (b : ℕ) → get_or s (place k x y) 0 ≡ b → 1 < b → walk s w h (suc k) x y ≡ met [] (Err Split)
      go zero u l = absurd (omega arith)
      go (suc zero) u l = absurd (omega arith)
      go (suc (suc b)) u l = byte (suc (suc b)) k x y p q u

-- ---- a leaf

module _ (w h : ℕ) where
  pub leaf_in_lem : (n x y : ℕ) → x + n ≤ w → y + n ≤ h → leaf_walk w h n x y ≡ met (leaf x y n ∷ []) (Ok tt)
  unfolding leaf_walk
  leaf_in_lem n x y p q = simp (le-leb (x + n) w p, le-leb (y + n) h q)

  pub leaf_x : (n x y : ℕ) → w < x + n → leaf_walk w h n x y ≡ met [] (Err PastPicture)
  unfolding leaf_walk
  leaf_x n x y p = simp (lt-leb (x + n) w p)

  pub leaf_y : (n x y : ℕ) → x + n ≤ w → h < y + n → leaf_walk w h n x y ≡ met [] (Err PastPicture)
  unfolding leaf_walk
  leaf_y n x y p q = simp (le-leb (x + n) w p, lt-leb (y + n) h q)

-- ---- the four parts of a block, by their numbers

module _ (f : ℕ → ℕ → Walk) (half x y : ℕ) where
  pub part₀ : part f half x y 0 ≡ f x y
  part₀ = ap₂ f (omega arith) (omega arith)

  pub part₁ : part f half x y 1 ≡ f (x + half) y
  part₁ = ap₂ f (omega arith) (omega arith)

  pub part₂ : part f half x y 2 ≡ f x (y + half)
  part₂ = ap₂ f (omega arith) (omega arith)

  pub part₃ : part f half x y 3 ≡ f (x + half) (y + half)
  part₃ = ap₂ f (omega arith) (omega arith)

-- ---- a block of side 2 ^ k has at most 2 ^ k * 2 ^ k leaves

pub record Few (v : Walk) (n : ℕ) : Type 0 where
  pub few : length v.list ≤ n

few_none : (a : Answer) (n : ℕ) → Few (met [] a) n
few_none a n = record { few = zero-le }

few_pick : (t : Bool) {v u : Walk} {n : ℕ} → Few v n → Few u n → Few (pick t v u) n
few_pick true f g = f
few_pick false f g = g

few_unless : (t : Bool) {v u : Walk} {n : ℕ} → Few v n → Few u n → Few (unless t v u) n
few_unless true f g = g
few_unless false f g = f

few_byte : (b : ℕ) {u v e : Walk} {n : ℕ} → Few u n → Few v n → Few e n → Few (by_byte b u v e) n
unfolding by_byte
few_byte zero f g h = f
few_byte (suc zero) f g h = g
few_byte (suc (suc b)) f g h = h

few_onward : (a : Answer) (l : List Leaf) (v : Walk) (m n : ℕ) → length l ≤ m → Few v n → Few (onward a l v) (m + n)
unfolding onward
few_onward (Ok _) l v m n g h = record { few = omega (arith, length-append l v.list) }
few_onward (Err r) l v m n g h = record { few = omega arith }

pub few_in_turn : (f : ℕ → Walk) (m : ℕ) → ((i : ℕ) → Few (f i) m) → (n : ℕ) → Few (in_turn f n) (n * m)
unfolding in_turn
few_in_turn f m h zero = few_none (Ok tt) _
few_in_turn f m h (suc n) =
    let i = few_onward (in_turn f n).answer (in_turn f n).list (f n) (n * m) m (few_in_turn f m h n).few (h n) in
    subst (Few (in_turn f (suc n))) (sym (suc-mul n m)) i

few_leaf : (w h n x y m : ℕ) → 1 ≤ m → Few (leaf_walk w h n x y) m
unfolding leaf_walk
few_leaf w h n x y m g = few_unless (leb (x + n) w) (few_none _ m) (few_unless (leb (y + n) h) (few_none _ m) (record { few = g }))

pub few_leaves : (s : List ℕ) (w h k x y : ℕ) → Few (walk s w h k x y) (2 ^ k * 2 ^ k)
unfolding walk
few_leaves s w h zero x y = few_pick (ltb x w) (few_pick (ltb y h) (few_leaf w h 1 x y 1 (omega arith)) (few_none (Ok tt) 1)) (few_none (Ok tt) 1)
few_leaves s w h (suc k) x y =
    let n = 2 ^ suc k * 2 ^ suc k in
    let q = 2 ^ k * 2 ^ k in
    let e : n ≡ 4 * q = rw (two-pow-succ k) (omega arith) in
    let one : 1 ≤ n = omega (arith, mul-pos (pow_pos k) (pow_pos k)) in
    few_pick (ltb x w)
    (few_pick (ltb y h)
    (few_byte (get_or s (place k x y) 0)
    (few_leaf w h (2 ^ suc k) x y n one)
    (subst (Few (in_turn (part (walk s w h k) (2 ^ k) x y) 4)) (sym e) (few_in_turn (part (walk s w h k) (2 ^ k) x y) q (λ i. few_leaves s w h k _ _) 4))
    (few_none (Err Split) n))
    (few_none (Ok tt) n))
    (few_none (Ok tt) n)
