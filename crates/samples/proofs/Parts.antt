-- A part of a list that a call has written as a whole, as `fill` does, is a row of a plane.
--     part_row    what the n places from a hold afterwards, ys, is g
--     filled_row    ys is one value, n times
-- Assumes nothing.
use Prim.Native.Nat.{ℕ, ◌+◌, ◌-◌, ◌≤◌, ◌<◌}
use mathlib.Core.Path.{◌≡◌, refl, sym, ap, ◌∙◌}
use mathlib.Core.List.{List}
use native.Mathlib.Omega.{arith}
use lib.ListN.{length, get_or, take, drop, replicate}
use borrow.Rule.Slice.PartMut.{put_mid, mid_of, mid_len, same_len_mid}
use Rattle.std.proofs.Math.ListN.{get_or-append}
use Rattle.std.proofs.lemmas.List.{get_or-append_right, get_or-drop, get_or-take, get_or-replicate, length-take-le, length-replicate}
use Rattle.laws.specs.Plane.{with_row}
use Rattle.laws.proofs.Planes.{rowed_all}

module _ {A : Type 0} (d : A) where
  module _ (a n : ℕ) (l ys : List A) (fits : a + n ≤ length l) (long : length ys ≡ n) where
    front : length (take a l) ≡ a
    front = length-take-le a l (omega arith)

    inside : (j : ℕ) → j < n → get_or (put_mid a n l ys) (a + j) d ≡ get_or ys j d
    inside j p =
        let e : a + j - a ≡ j = omega arith in
        get_or-append_right (take a l) _ a (a + j) d front (omega arith)
        ∙ rw e (get_or-append ys _ d j (omega (arith, long)))

    below : (k : ℕ) → k < a → get_or (put_mid a n l ys) k d ≡ get_or l k d
    below k p = get_or-append (take a l) _ d k (omega (arith, front)) ∙ get_or-take a l k d p

    above : (k : ℕ) → a + n ≤ k → get_or (put_mid a n l ys) k d ≡ get_or l k d
    above k p =
        let e : a + (n + (k - a - n)) ≡ k = omega arith in
        get_or-append_right (take a l) _ a k d front (omega arith)
        ∙ get_or-append_right ys _ n (k - a) d long (omega arith)
        ∙ get_or-drop n (drop a l) (k - a - n) d
        ∙ get_or-drop a l (n + (k - a - n)) d
        ∙ ap (λ (i : ℕ). get_or l i d) e

    whole : length (put_mid a n l ys) ≡ length l
    whole =
        let e : a + n - a ≡ n = omega arith in
        same_len_mid a n l ys (long ∙ sym (rw e at (mid_len a (a + n) l fits)))

  -- the part from a to a + n, as `&mut l[a..a + n]` lends it
  pub part_row : (a n : ℕ) (g : ℕ → A) (l ys : List A) → a + n ≤ length l → length ys ≡ n → ((j : ℕ) → j < n → get_or ys j d ≡ g j)
      → put_mid a (a + n - a) l ys ≡ with_row d a n g l
  part_row a n g l ys fits long same =
      let e : a + n - a ≡ n = omega arith in
      ap (λ (m : ℕ). put_mid a m l ys) e
      ∙ rowed_all d a n g l (put_mid a n l ys) n refl
      (record {
        long = whole a n l ys fits long;
        done = λ j p. inside a n l ys fits long j p ∙ same j p;
        low = λ k p. below a n l ys fits long k p;
        high = λ k p. above a n l ys fits long k p;
      })

  pub filled_row : (a n : ℕ) (v : A) (l ys : List A) → a + n ≤ length l → ys ≡ replicate (length (mid_of a (a + n - a) l)) v
      → put_mid a (a + n - a) l ys ≡ with_row d a n (λ (j : ℕ). v) l
  filled_row a n v l ys fits e =
      let m : a + n - a ≡ n = omega arith in
      let q : ys ≡ replicate n v = e ∙ ap (λ (k : ℕ). replicate k v) (mid_len a (a + n) l fits ∙ m) in
      part_row a n _ l ys fits (ap length q ∙ length-replicate n v) (λ j p. ap (λ (x : List A). get_or x j d) q ∙ get_or-replicate n j v d p)
