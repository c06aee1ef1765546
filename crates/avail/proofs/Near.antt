-- The unit that `word_near` reads: whether it is there, and where its word lies.
--     none_down, none_across    no such row, or no such column: the word is 0
--     found, found_below    a unit of the picture, and that its place is within the words
-- Assumes nothing.
use Prim.Native.Nat.{ℕ, ◌+◌, ◌-◌, ◌*◌, ◌/◌, ◌≤◌, ◌<◌}
use mathlib.Core.Path.{◌≡◌}
use mathlib.Core.Bool.{true, false}
use mathlib.Core.List.{List}
use native.Mathlib.Omega.{arith}
use borrow.Author.Tests.{le-leb, lt-leb, lt-ltb, le-ltb}
use Rattle.laws.proofs.Places.{place_below}
use Rattle.def.specs.Picture.{unit_count}
use Rattle.avail.specs.Around.{word_at}
use Rattle.avail.specs.Near.{counted, word_near}

pub counted_in : (n k : ℕ) → 0 < k → k ≤ n → counted n k ≡ true
unfolding counted
counted_in n k p q = simp (lt-ltb 0 k p, le-leb k n q)

pub counted_zero : (n k : ℕ) → k ≤ 0 → counted n k ≡ false
unfolding counted
counted_zero n k p = simp (le-ltb 0 k p)

pub counted_past : (n k : ℕ) → n < k → counted n k ≡ false
unfolding counted
counted_past n k p = simp (lt-ltb 0 k (omega arith), lt-leb k n p)

module _ (w h : ℕ) (words : List ℕ) (x y a b : ℕ) where
  pub none_down : counted (h / 4) (y / 4 + b) ≡ false → 0 ≡ word_near w h words x y a b
  unfolding word_near
  none_down e = rw e

  pub none_across : counted (h / 4) (y / 4 + b) ≡ true → counted (w / 4) (x / 4 + a) ≡ false → 0 ≡ word_near w h words x y a b
  unfolding word_near
  none_across e f = rw (e, f)

  pub found : counted (h / 4) (y / 4 + b) ≡ true → counted (w / 4) (x / 4 + a) ≡ true → word_at w words (x / 4 + a - 1) (y / 4 + b - 1) ≡ word_near w h words x y a b
  unfolding word_near
  found e f = rw (e, f)

-- u and v counted from 1
pub found_below : (w h u v n : ℕ) → 0 < u → u ≤ w / 4 → 0 < v → v ≤ h / 4 → n ≡ unit_count w h → (v - 1) * (w / 4) + (u - 1) < n
found_below w h u v n p q r s e = place_below (w / 4) (h / 4) (u - 1) (v - 1) n (omega arith) (omega arith) e
