-- The neighbours as the code reads them, by their place in the frame around the block, are those of the two rules.
--     read_at    a test of a unit near the block, by the unit's column and row
--     intra_are, inter_are    the eight answers
-- Assumes nothing.
use Prim.Native.Nat.{ℕ, ◌+◌, ◌-◌, ◌*◌, ◌≤◌, ◌<◌}
use mathlib.Core.Path.{◌≡◌, refl, sym, ◌∙◌}
use mathlib.Core.Bool.{Bool, true, false, not, ◌&&◌}
use native.Mathlib.Omega.{arith}
use native.Mathlib.Decide.{dec_lt}
use borrow.Author.Tests.{lt-ltb, le-ltb}
use lib.Dec.{ltb}
use Rattle.laws.specs.Index.{pick}
use Rattle.laws.specs.Bits.{field_of}
use Rattle.def.specs.Word.{flag_at, intra_of, done_of}
use Rattle.avail.specs.Around.{Input, units_across, units_down, column, row, units, word_at, done_not_intra}
use Rattle.avail.specs.Near.{counted, word_near}
use Rattle.avail.specs.Intra.{intra_neighbours, last_below}
use Rattle.avail.specs.Inter.{inter_neighbours, below}
use Rattle.avail.proofs.Accepted.{Accepted}
use Rattle.avail.proofs.Near.{counted_in, counted_zero, counted_past}

-- ---- along a side: the place before k, and a place v counted from 0

first : (n k : ℕ) → k ≤ n → counted n (k + 0) ≡ ltb 0 k
first n k h = go (dec_lt 0 k) where
  go : Dec (0 < k) → counted n (k + 0) ≡ ltb 0 k
  go (yes p) = counted_in n (k + 0) (omega arith) (omega arith) ∙ sym (lt-ltb 0 k p)
  go (no p) = counted_zero n (k + 0) (omega arith) ∙ sym (le-ltb 0 k (omega arith))

next : (n k v : ℕ) → k ≡ v + 1 → counted n k ≡ ltb v n
next n k v e = go (dec_lt v n) where
  go : Dec (v < n) → counted n k ≡ ltb v n
  go (yes p) = counted_in n k (omega arith) (omega arith) ∙ sym (lt-ltb v n p)
  go (no p) = counted_past n k (omega arith) ∙ sym (le-ltb v n (omega arith))

-- ---- tests of a word that fail at 0

no_done : done_of 0 ≡ false
unfolding flag_at field_of
no_done = refl

no_intra : intra_of 0 ≡ false
unfolding flag_at field_of
no_intra = refl

no_inter : done_not_intra 0 ≡ false
unfolding flag_at field_of
no_inter = refl

picked : (p : ℕ → Bool) → p 0 ≡ false → (d c : Bool) (word : ℕ) → p (pick (d && c) word 0) ≡ (d && (c && p word))
picked p z true true word = refl
picked p z true false word = z
picked p z false c word = z

-- a condition that two tests share
asked_once : (x l d m : Bool) → ((x && l) && (d && (x && m))) ≡ ((x && l) && (d && m))
asked_once true l d m = refl
asked_once false l d m = refl

not_above : (r m : Bool) → (r && not (r && m)) ≡ (r && not m)
not_above true m = refl
not_above false m = refl

-- ---- the columns around the block: a columns from the one up-left of it is column u, which is there where x holds

record Column (i : Input) (a u : ℕ) (x : Bool) : Type 0 where
  there : counted (units_across i) (column i + a) ≡ x
  place : column i + a - 1 ≡ u

module _ (i : Input) (ok : Accepted i) where
  left_column : Column i 0 (column i - 1) (ltb 0 (column i))
  left_column =
      let k = ok.block in
      record { there = first _ _ (omega arith); place = omega arith }

  -- a column of the block itself
  own_column : (a : ℕ) → 0 < a → a ≤ units i → Column i a (column i + a - 1) true
  own_column a p q =
      let k = ok.block in
      record { there = counted_in _ _ (omega arith) (omega arith); place = refl }

  right_column : Column i (units i + 1) (column i + units i) (ltb (column i + units i) (units_across i))
  right_column = record { there = next _ _ (column i + units i) (omega arith); place = omega arith }

-- ---- a test of a unit in such a column: beside the block's first row, above it, and further down

module _ (p : ℕ → Bool) (z : p 0 ≡ false) (i : Input) where
  abbrev near : ℕ → ℕ → Bool
  near a b = p (word_near i.w i.h i.words i.x i.y a b)

  abbrev at : ℕ → ℕ → Bool
  at u v = p (word_at i.w i.words u v)

  module _ (ok : Accepted i) (a u : ℕ) (x : Bool) (col : Column i a u x) where
    read_at : (b v : ℕ) (d : Bool) → counted (units_down i) (row i + b) ≡ d → row i + b - 1 ≡ v → near a b ≡ (d && (x && at u v))
    unfolding word_near
    read_at b v d g n =
        picked p z (counted (units_down i) (row i + b)) (counted (units_across i) (column i + a)) (word_at i.w i.words (column i + a - 1) (row i + b - 1))
        ∙ rw (col.there, col.place, g, n)

    beside : near a 1 ≡ (x && at u (row i))
    beside =
        let k = ok.block in
        read_at 1 (row i) true (counted_in _ _ (omega arith) (omega arith)) (omega arith)

    above : near a 0 ≡ (ltb 0 (row i) && (x && at u (row i - 1)))
    above =
        let k = ok.block in
        read_at 0 (row i - 1) _ (first _ _ (omega arith)) (omega arith)

    -- row v, asked of only where the unit beside is there
    lower : (b v : ℕ) → row i + b ≡ v + 1 → (near a 1 && near a b) ≡ ((x && at u (row i)) && (ltb v (units_down i) && at u v))
    lower b v e =
        rw (beside, read_at b v (ltb v (units_down i)) (next _ _ v e) (omega arith))
        (asked_once x (at u (row i)) (ltb v (units_down i)) (at u v))

-- ---- the eight answers, from what the code computed

module _ (i : Input) (ok : Accepted i) where
  abbrev word : ℕ → ℕ → ℕ
  word a b = word_near i.w i.h i.words i.x i.y a b

  pub intra_are :
      (v : ℕ) → v ≡ row i
      → (left right up_left up_right lowLeft lowRight : Bool)
      → left ≡ done_of (word 0 1) → right ≡ done_of (word (units i + 1) 1)
      → up_left ≡ done_of (word 0 0) → up_right ≡ done_of (word (units i + 1) 0)
      → lowLeft ≡ done_of (word 0 (2 * units i)) → lowRight ≡ done_of (word (units i + 1) (2 * units i))
      → record {
        up = ltb 0 v;
        left = left;
        right = right;
        up_left = up_left;
        up_right = up_right;
        low_left = left && lowLeft;
        low_right = right && lowRight;
        right_up = ltb 0 v;
      } ≡ intra_neighbours i
  unfolding intra_neighbours
  intra_are v e left right up_left up_right lowLeft lowRight l r ul ur ll lr =
      let k = ok.block in
      let last : row i + 2 * units i ≡ last_below i + 1 = omega arith in
      let lc = left_column i ok in
      let rc = right_column i ok in
      rw (e, l, r, ul, ur, ll, lr)
      (rw (lower done_of no_done i ok _ _ _ lc (2 * units i) (last_below i) last, lower done_of no_done i ok _ _ _ rc (2 * units i) (last_below i) last)
      (rw (beside done_of no_done i ok _ _ _ lc, beside done_of no_done i ok _ _ _ rc, above done_of no_done i ok _ _ _ lc, above done_of no_done i ok _ _ _ rc)))

  pub inter_are :
      (v : ℕ) → v ≡ row i
      → (left right up up_left up_right lowLeft lowRight rightUp : Bool)
      → left ≡ done_not_intra (word 0 1) → right ≡ done_not_intra (word (units i + 1) 1)
      → up ≡ intra_of (word 1 0) → up_left ≡ done_not_intra (word 0 0) → up_right ≡ done_not_intra (word (units i + 1) 0)
      → lowLeft ≡ done_not_intra (word 0 (units i + 1)) → lowRight ≡ done_not_intra (word (units i + 1) (units i + 1))
      → rightUp ≡ intra_of (word (units i) 0)
      → record {
        up = ltb 0 v && not up;
        left = left;
        right = right;
        up_left = up_left;
        up_right = up_right;
        low_left = left && lowLeft;
        low_right = right && lowRight;
        right_up = ltb 0 v && not rightUp;
      } ≡ inter_neighbours i
  unfolding inter_neighbours
  inter_are v e left right up up_left up_right lowLeft lowRight rightUp l r u ul ur ll lr ru =
      let k = ok.block in
      let last : row i + (units i + 1) ≡ below i + 1 = omega arith in
      let lc = left_column i ok in
      let rc = right_column i ok in
      let mine = own_column i ok 1 (omega arith) (omega arith) in
      let first-is : column i + 1 - 1 ≡ column i = omega arith in
      rw (e, l, r, u, ul, ur, ll, lr, ru)
      (rw (lower done_not_intra no_inter i ok _ _ _ lc (units i + 1) (below i) last, lower done_not_intra no_inter i ok _ _ _ rc (units i + 1) (below i) last)
      (rw (beside done_not_intra no_inter i ok _ _ _ lc, beside done_not_intra no_inter i ok _ _ _ rc, above done_not_intra no_inter i ok _ _ _ lc, above done_not_intra no_inter i ok _ _ _ rc)
      (rw (above intra_of no_intra i ok _ _ _ mine, above intra_of no_intra i ok _ _ _ (own_column i ok (units i) (omega arith) (omega arith)))
      (simp (not_above, first-is)))))
