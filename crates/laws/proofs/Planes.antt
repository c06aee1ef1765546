-- Laws of planes: a loop that writes a row's part, and a loop that writes a block row by row.
--     Rowed, rowed_none, rowed_more, rowed_all     the row's loop: what holds after c stores, at the start, after one more, and at the end
--     block_none, block_more      the block's loop: no row is the plane itself; a row more, written by the row's loop, is the block of one row more
--     length_row, length_block
use mathlib.Core.Path.{◌≡◌, refl, sym, ap, ◌∙◌, subst}
use mathlib.Core.Bool.{true, false}
use mathlib.Core.List.{List}
use Prim.Native.Nat.{ℕ, ◌+◌, ◌-◌, ◌*◌, ◌/◌, ◌%◌, ◌≤◌, ◌<◌}
use native.Mathlib.Nat.{div-add-mod', mod-lt, mul-le-mul_right}
use native.Mathlib.Decide.{dec_lt}
use native.Mathlib.Omega.{arith}
use borrow.Author.Tests.{le-leb, lt-leb, lt-ltb, le-ltb}
use lib.ListN.{length, get_or, set, length-set}
use lib.Seq.{get_or-set_same, get_or-set_other, ext_get_or}
use Rattle.laws.specs.Index.{pick}
use Rattle.laws.specs.Plane.{within, with_row, with_block}
use Rattle.laws.proofs.Tabulate.{length_tabulate, get_d_tabulate, is_tabulate}
use Rattle.laws.proofs.Flat.{next_row}

pub within_yes : (a n k : ℕ) → a ≤ k → k < a + n → within a n k ≡ true
unfolding within
within_yes a n k p q = simp (le-leb a k p, lt-ltb k (a + n) q)

pub within_low : (a n k : ℕ) → k < a → within a n k ≡ false
unfolding within
within_low a n k p = simp (lt-leb a k p)

pub within_high : (a n k : ℕ) → a + n ≤ k → within a n k ≡ false
unfolding within
within_high a n k p = simp (le-leb a k (omega arith), le-ltb k (a + n) p)

module _ {A : Type 0} (d : A) where
  -- ---- a row's part, from a
  pub record Rowed (a : ℕ) (g : ℕ → A) (l₀ l : List A) (c : ℕ) : Type 0 where
    pub long : length l ≡ length l₀
    pub done : (j : ℕ) → j < c → get_or l (a + j) d ≡ g j
    pub low : (k : ℕ) → k < a → get_or l k d ≡ get_or l₀ k d
    pub high : (k : ℕ) → a + c ≤ k → get_or l k d ≡ get_or l₀ k d

  pub rowed_none : (a : ℕ) (g : ℕ → A) (l : List A) → Rowed a g l l 0
  rowed_none a g l = record { long = refl; done = λ j h. absurd (none j h); low = λ k h. refl; high = λ k h. refl } where
    none : (j : ℕ) → j < 0 → ⊥
    none j h = omega arith

  pub rowed_more : (a : ℕ) (g : ℕ → A) (l₀ l : List A) (c : ℕ) (v : A) → a + c < length l₀ → v ≡ g c → Rowed a g l₀ l c → Rowed a g l₀ (set l (a + c) v) (c + 1)
  rowed_more a g l₀ l c v h e u =
      record {
        long = length-set l (a + c) v ∙ u.long;
        done = λ j p. step j p (dec_lt j c);
        low = λ k p. get_or-set_other l (a + c) k v d (λ q. before k p q) ∙ u.low k p;
        high = λ k p. get_or-set_other l (a + c) k v d (λ q. after k p q) ∙ u.high k (omega arith);
      } where
        before : (k : ℕ) → k < a → k ≡ a + c → ⊥
        before k p q = omega arith

        after : (k : ℕ) → a + (c + 1) ≤ k → k ≡ a + c → ⊥
        after k p q = omega arith

        step : (j : ℕ) → j < c + 1 → Dec (j < c) → get_or (set l (a + c) v) (a + j) d ≡ g j
        step j p (yes q) = get_or-set_other l (a + c) (a + j) v d (λ r. (omega arith)) ∙ u.done j q
        step j p (no q) =
            let r : j ≡ c = omega arith in
            rw r (get_or-set_same l (a + c) v d (omega (arith, u.long)) ∙ e)

  pub rowed_all : (a n : ℕ) (g : ℕ → A) (l₀ l : List A) (c : ℕ) → c ≡ n → Rowed a g l₀ l c → l ≡ with_row d a n g l₀
  unfolding with_row
  rowed_all a n g l₀ l c e u = is_tabulate _ (length l₀) l d u.long (λ k p. at k (dec_lt k a) (dec_lt k (a + n))) where
    at : (k : ℕ) → Dec (k < a) → Dec (k < a + n) → get_or l k d ≡ pick (within a n k) (g (k - a)) (get_or l₀ k d)
    at k (yes p) q = rw (within_low a n k p) (u.low k p)
    at k (no p) (yes q) =
        let r : a + (k - a) ≡ k = omega arith in
        rw (within_yes a n k (omega arith) q) (rw r at (u.done (k - a) (omega arith)))
    at k (no p) (no q) = rw (within_high a n k (omega arith)) (u.high k (omega arith))

  pub length_row : (a n : ℕ) (g : ℕ → A) (l : List A) → length (with_row d a n g l) ≡ length l
  unfolding with_row
  length_row a n g l = length_tabulate _ (length l)

  -- ---- a block, row by row
  pub length_block : (w x y s t : ℕ) (f : ℕ → ℕ → A) (l : List A) → length (with_block d w x y s t f l) ≡ length l
  unfolding with_block
  length_block w x y s t f l = length_tabulate _ (length l)

  pub block_none : (w x y s : ℕ) (f : ℕ → ℕ → A) (l : List A) → l ≡ with_block d w x y s 0 f l
  unfolding with_block
  block_none w x y s f l = is_tabulate _ (length l) l d refl (λ k p. rw (none (k / w) (dec_lt (k / w) y))) where
    none : (r : ℕ) → Dec (r < y) → within y 0 r ≡ false
    none r (yes p) = within_low y 0 r p
    none r (no p) = within_high y 0 r (omega arith)

  -- one place k of the plane, at row R, column C, that holds z before: row t of the block, over its first t rows, is its first t + 1 rows
  module _ (w x y s t : ℕ) (f : ℕ → ℕ → A) (fits : x + s ≤ w) (R C k : ℕ) (here : R * w + C ≡ k) (col : C < w) (z : A) where
    cell : ℕ → A
    cell n = pick (within y n R) (pick (within x s C) (f (R - y) (C - x)) z) z

    Same : Type 0
    Same = pick (within ((y + t) * w + x) s k) (f t (k - ((y + t) * w + x))) (cell t) ≡ cell (t + 1)

    -- a row of the block that stands already, or a row above the block
    above : R < y + t → Dec (R < y) → Same
    unfolding Same cell
    above p (yes q) = simp (within_low _ s k early, within_low y t R q, within_low y (t + 1) R q) where
      early : k < (y + t) * w + x
      early = omega (arith, next_row R w, mul-le-mul_right {m = R + 1} {n = y + t} w (omega arith))
    above p (no q) = simp (within_low _ s k early, within_yes y t R (omega arith) p, within_yes y (t + 1) R (omega arith) (omega arith)) where
      early : k < (y + t) * w + x
      early = omega (arith, next_row R w, mul-le-mul_right {m = R + 1} {n = y + t} w (omega arith))

    flat : R ≡ y + t → (y + t) * w + C ≡ k
    flat e = rw e at here

    row : R ≡ y + t → t ≡ R - y
    row e = omega arith

    column : R ≡ y + t → x ≤ C → k - ((y + t) * w + x) ≡ C - x
    column e p = omega (arith, flat e)

    -- the row that is written
    on : R ≡ y + t → Dec (C < x) → Dec (C < x + s) → Same
    unfolding Same cell
    on e (yes p) q = simp (within_low ((y + t) * w + x) s k (omega (arith, flat e)), within_high y t R (omega arith), within_yes y (t + 1) R (omega arith) (omega arith), within_low x s C p)
    on e (no p) (yes q) =
        simp (within_yes ((y + t) * w + x) s k (omega (arith, flat e)) (omega (arith, flat e)), within_yes y (t + 1) R (omega arith) (omega arith), within_yes x s C (omega arith) q)
        (cc (row e, column e (omega arith)))
    on e (no p) (no q) = simp (
      within_high ((y + t) * w + x) s k (omega (arith, flat e)),
      within_high y t R (omega arith),
      within_yes y (t + 1) R (omega arith) (omega arith),
      within_high x s C (omega arith),
    )

    below : y + t < R → Same
    unfolding Same cell
    below p = simp (within_high _ s k late, within_high y t R (omega arith), within_high y (t + 1) R (omega arith)) where
      late : (y + t) * w + x + s ≤ k
      late = omega (arith, next_row (y + t) w, mul-le-mul_right {m = y + t + 1} {n = R} w (omega arith))

    all : Dec (R < y) → Dec (R < y + t) → Dec (y + t < R) → Dec (C < x) → Dec (C < x + s) → Same
    all p (yes q) r u v = above q p
    all p (no q) (yes r) u v = below r
    all p (no q) (no r) u v = on (omega arith) u v

  pub get_d_row : (a n : ℕ) (g : ℕ → A) (l : List A) (k : ℕ) → k < length l → get_or (with_row d a n g l) k d ≡ pick (within a n k) (g (k - a)) (get_or l k d)
  unfolding with_row
  get_d_row a n g l k h = get_d_tabulate _ (length l) k d h

  pub get_d_block : (w x y s t : ℕ) (f : ℕ → ℕ → A) (l : List A) (k : ℕ) → k < length l → get_or (with_block d w x y s t f l) k d ≡ pick (within y t (k / w))
      (pick (within x s (k % w)) (f (k / w - y) (k % w - x)) (get_or l k d)) (get_or l k d)
  unfolding with_block
  get_d_block w x y s t f l k h = get_d_tabulate _ (length l) k d h

  pub block_more : (w x y s t : ℕ) (f : ℕ → ℕ → A) (l : List A) → x + s ≤ w → 0 < w → with_row d ((y + t) * w + x) s (f t) (with_block d w x y s t f l) ≡ with_block d w x y s (t + 1) f l
  unfolding Same cell
  block_more w x y s t f l fits some =
      let m = with_block d w x y s t f l in
      let n : length m ≡ length l = length_block w x y s t f l in
      ext_get_or d _ _ (length_row _ s (f t) m ∙ n ∙ sym (length_block w x y s (t + 1) f l))
      (λ k p. let q : k < length l = subst (λ (j : ℕ). k < j) (length_row _ s (f t) m ∙ n) p in at k q n) where
        at : (k : ℕ) → k < length l → length (with_block d w x y s t f l) ≡ length l
            → get_or (with_row d ((y + t) * w + x) s (f t) (with_block d w x y s t f l)) k d ≡ get_or (with_block d w x y s (t + 1) f l) k d
        at k q n =
            get_d_row _ s (f t) (with_block d w x y s t f l) k (subst (λ (j : ℕ). k < j) (sym n) q)
            ∙ ap (pick (within ((y + t) * w + x) s k) (f t (k - ((y + t) * w + x)))) (get_d_block w x y s t f l k q)
            ∙ all w x y s t f fits (k / w) (k % w) k (div-add-mod' k w) (mod-lt k some) (get_or l k d) (dec_lt (k / w) y) (dec_lt (k / w) (y + t))
            (dec_lt (y + t) (k / w)) (dec_lt (k % w) x) (dec_lt (k % w) (x + s))
            ∙ sym (get_d_block w x y s (t + 1) f l k q)
