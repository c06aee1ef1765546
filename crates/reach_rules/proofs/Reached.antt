-- Other bytes are never read: two maps that agree where the walk of the first reaches have the same walk.
--     same_block, same_root, same_tree    a block, a root, and a picture
-- Assumes nothing.
use Rattle.std.specs.Prelude.{Ok, Err}
use Prim.Native.Nat.{ℕ, zero, suc, ◌+◌, ◌*◌, ◌/◌, ◌%◌, ◌^◌, ◌≤◌, ◌<◌}
use mathlib.Core.Bool.{Bool, true, false}
use mathlib.Core.List.Memᴰ
use mathlib.Core.List.{List, [], ◌∷◌, ◌++◌, Memᴰ}
use mathlib.Core.Logic.{⊎_elim}
use mathlib.Core.Path.{◌≡◌, refl, sym, ap, ap₂, ◌∙◌}
use native.Mathlib.Nat.{not-suc-le-zero, eq-or-lt_of_le, le_of_suc-le-suc}
use native.Mathlib.Decide.{dec_lt}
use native.Mathlib.Omega.{arith}
use lib.Dec.{ltb}
use lib.ListN.{length, get_or, take, drop, length-take, get_or-eq_default}
use lib.Seq.{get_or-take, get_or-drop}
use Rattle.def.specs.Answers.{Answer}
use Rattle.def.specs.declared.Refusal.TheVariants.{Split}
use Rattle.laws.specs.Index.{pick}
use Rattle.split.specs.Edges.{edges_of}
use Rattle.split.specs.Picture.{roots, root_bytes, root_x, root_y, root_walk, root_leaves, leaves_of, picture_walk, all_leaves}
use Rattle.split.specs.Walk.{Leaf, Walk, met, nothing, onward, in_turn, leaf_walk, by_byte, place, part, walk}
use Rattle.split.proofs.Walks.{not_done, both}
use Rattle.reach_rules.specs.Reached.{next_reached, in_turn_reached, reached, root_reached, picture_reached, AgreeAt, SameTree}

-- ---- walks in turn

-- P: the maps agree at a place. Where they agree on all that the walks f reach, the walks g are the same, in turn
module _ (P : ℕ → Type 0) (f g : ℕ → Walk) (r : ℕ → List ℕ) (alone : (i : ℕ) → ((p : ℕ) → Memᴰ p (r i) → P p) → g i ≡ f i) where
  abbrev Over : List ℕ → Type 0
  Over l = (p : ℕ) → Memᴰ p l → P p

  next : (a : Answer) (l : List Leaf) (n : ℕ) → Over (next_reached a (r n)) → onward a l (g n) ≡ onward a l (f n)
  unfolding onward next_reached
  next (Ok _) l n o = ap (onward (Ok tt) l) (alone n o)
  next (Err q) l n o = refl

  pub same_in_turn : (n : ℕ) → Over (in_turn_reached f r n) → in_turn g n ≡ in_turn f n
  unfolding in_turn in_turn_reached
  same_in_turn zero o = refl
  same_in_turn (suc n) o =
      ap (λ (v : Walk). onward v.answer v.list (g n)) (same_in_turn n (λ p m. o p (Memᴰ.append_left _ m)))
      ∙ next (in_turn f n).answer (in_turn f n).list n (λ p m. o p (Memᴰ.append_right (in_turn_reached f r n) m))

  -- where none is refused, each of them
  done_over : (a : Answer) (n : ℕ) → a ≡ Ok tt → Over (next_reached a (r n)) → Over (r n)
  unfolding next_reached
  done_over (Ok _) n e o = o
  done_over (Err q) n e o = absurd (not_done q e)

  pub same_each : (n : ℕ) → Over (in_turn_reached f r n) → (in_turn f n).answer ≡ Ok tt → (i : ℕ) → i < n → g i ≡ f i
  unfolding in_turn in_turn_reached
  same_each zero o e i l = absurd (not-suc-le-zero l)
  same_each (suc n) o e i l =
      let b = both (in_turn f n).answer (in_turn f n).list (f n) e in
      let here = alone n (done_over (in_turn f n).answer n b.first (λ p m. o p (Memᴰ.append_right (in_turn_reached f r n) m))) in
      ⊎_elim (λ q. rw q here) (λ q. same_each n (λ p m. o p (Memᴰ.append_left _ m)) b.first i q) (eq-or-lt_of_le (le_of_suc-le-suc l))

-- ---- a block

module _ (s t : List ℕ) (w h : ℕ) where
  -- by whether it starts in the picture, and by its byte
  module _ (k x y : ℕ) where
    abbrev parts : List ℕ → ℕ → Walk
    parts z = part (walk z w h k) (2 ^ k) x y

    abbrev below : ℕ → List ℕ
    below n = reached s w h k (x + n % 2 * 2 ^ k) (y + n / 2 * 2 ^ k)

    by_byte_lem : (n : ℕ) → ((i : ℕ) → AgreeAt (below i) s t → parts t i ≡ parts s i) → AgreeAt (by_byte n [] (in_turn_reached (parts s) below 4) []) s t →
        by_byte n (leaf_walk w h (2 ^ suc k) x y) (in_turn (parts t) 4) (met [] (Err Split)) ≡ by_byte n (leaf_walk w h (2 ^ suc k) x y) (in_turn (parts s) 4) (met [] (Err Split))
    unfolding by_byte
    by_byte_lem zero f o = refl
    by_byte_lem (suc zero) f o = same_in_turn (λ p. get_or t p 0 ≡ get_or s p 0) (parts s) (parts t) below f 4 o
    by_byte_lem (suc (suc n)) f o = refl

    abbrev cut : List ℕ → ℕ → Walk
    cut z n = by_byte n (leaf_walk w h (2 ^ suc k) x y) (in_turn (parts z) 4) (met [] (Err Split))

    by_start : (a b : Bool) → ((i : ℕ) → AgreeAt (below i) s t → parts t i ≡ parts s i) →
        AgreeAt (pick a (pick b (place k x y ∷ by_byte (get_or s (place k x y) 0) [] (in_turn_reached (parts s) below 4) []) []) []) s t →
        pick a (pick b (cut t (get_or t (place k x y) 0)) nothing) nothing ≡ pick a (pick b (cut s (get_or s (place k x y) 0)) nothing) nothing
    by_start true true f o =
        ap (cut t) (o (place k x y) (Memᴰ.head refl)) ∙ by_byte_lem (get_or s (place k x y) 0) f (λ p m. o p (Memᴰ.tail m))
    by_start true false f o = refl
    by_start false b f o = refl

  pub same_block : (k x y : ℕ) → AgreeAt (reached s w h k x y) s t → walk t w h k x y ≡ walk s w h k x y
  unfolding walk reached
  same_block zero x y o = refl
  same_block (suc k) x y o = by_start k x y (ltb x w) (ltb y h) (λ i q. same_block k (x + i % 2 * 2 ^ k) (y + i / 2 * 2 ^ k) q) o

  -- ---- a root

  root_byte : (i p : ℕ) → get_or t (1024 * i + p) 0 ≡ get_or s (1024 * i + p) 0 → get_or (root_bytes t i) p 0 ≡ get_or (root_bytes s i) p 0
  root_byte i p e = by (dec_lt p 1024) where
    by : Dec (p < 1024) → get_or (root_bytes t i) p 0 ≡ get_or (root_bytes s i) p 0
    by (yes l) =
        get_or-take 1024 (drop (1024 * i) t) p 0 l ∙ get_or-drop (1024 * i) t p 0 ∙ e
        ∙ sym (get_or-take 1024 (drop (1024 * i) s) p 0 l ∙ get_or-drop (1024 * i) s p 0)
    by (no l) =
        let a : length (root_bytes t i) ≤ p = simp length-take (omega arith) in
        let b : length (root_bytes s i) ≤ p = simp length-take (omega arith) in
        get_or-eq_default (root_bytes t i) 0 a ∙ sym (get_or-eq_default (root_bytes s i) 0 b)

pub same_root : (s t : List ℕ) (w h i : ℕ) → AgreeAt (root_reached s w h i) s t → root_walk t w h i ≡ root_walk s w h i
same_root s t w h i o =
    same_block (root_bytes s i) (root_bytes t i) w h 4 (root_x w i) (root_y w i)
    (λ p m. root_byte s t w h i p (o (1024 * i + p) (Memᴰ.map (λ (q : ℕ). 1024 * i + q) m)))

-- ---- a picture

module _ (s t : List ℕ) (w h : ℕ) (o : AgreeAt (picture_reached s w h) s t) where
  abbrev Agree : ℕ → Type 0
  Agree p = get_or t p 0 ≡ get_or s p 0

  leaves_upto : (n : ℕ) → ((i : ℕ) → i < n → root_walk t w h i ≡ root_walk s w h i) → leaves_of t w h n ≡ leaves_of s w h n
  unfolding leaves_of
  leaves_upto zero e = refl
  leaves_upto (suc n) e = ap₂ ◌++◌ (leaves_upto n (λ i l. e i (omega arith))) (ap (λ (v : Walk). v.list) (e n (omega arith)))

  same_leaves : (picture_walk s w h).answer ≡ Ok tt → all_leaves t w h ≡ all_leaves s w h
  same_leaves e = leaves_upto (roots w h) (same_each Agree (root_walk s w h) (root_walk t w h) (root_reached s w h) (same_root s t w h) (roots w h) o e)

  pub same_tree : SameTree s t w h
  same_tree =
      record {
        walk = same_in_turn Agree (root_walk s w h) (root_walk t w h) (root_reached s w h) (same_root s t w h) (roots w h) o;
        leaves = same_leaves;
        edges = λ e d halved. ap (edges_of d halved) (same_leaves e);
      }
