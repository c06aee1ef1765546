-- Whose bytes are whose: of a root's bytes each belongs to one block of 8 or more.
--     owns_centre, owns_part    a block's own byte, and those of its parts
--     centre_no_part, parts_apart    no byte is a block's own and a part's, or two parts'
-- Assumes nothing.
use mathlib.Core.Path.{◌≡◌, refl, sym, ◌∙◌}
use Prim.Native.Nat.{ℕ, zero, suc, ◌+◌, ◌-◌, ◌*◌, ◌/◌, ◌%◌, ◌^◌, ◌≤◌, ◌<◌}
use native.Mathlib.Nat.{two-pow-succ, one-mul}
use native.Mathlib.Omega.{arith}
use lib.Pow.{pow_pos}
use Rattle.split.specs.Walk.{place}
use Rattle.split.proofs.Blocks.{at_most_half}
use Rattle.marks_rules.proofs.Blocks.{part_x, part_y, Rooted}

-- the byte at a place belongs to the block of side 2 ^ k at (x, y) or to one that it is cut into
pub record Owns (k x y place : ℕ) : Type 0 where
  pub level : 256 * (4 - k) ≤ place
  pub left : x % 16 ≤ place % 16
  pub right : place % 16 < x % 16 + 2 ^ k
  pub top : y % 16 ≤ place / 16 % 16
  pub bottom : place / 16 % 16 < y % 16 + 2 ^ k

-- a byte's level, row and column
cell_column : (l a b : ℕ) → a < 16 → (256 * l + (16 * b + a)) % 16 ≡ a
cell_column l a b p = omega arith

cell_row : (l a b : ℕ) → a < 16 → b < 16 → (256 * l + (16 * b + a)) / 16 % 16 ≡ b
cell_row l a b p q = omega arith

shifted : (x n : ℕ) → x % 16 + n < 16 → (x + n) % 16 ≡ x % 16 + n
shifted x n h = omega arith

-- a stretch of n that holds u starts at one of two multiples of n, and at one only
same_bit : (a b n u lo : ℕ) → a ≤ 1 → b ≤ 1 → lo + a * n ≤ u → u < lo + a * n + n → lo + b * n ≤ u → u < lo + b * n + n → a ≡ b
same_bit zero zero n u lo p q f g h k = refl
same_bit zero (suc zero) n u lo p q f g h k = absurd (omega (arith, one-mul n))
same_bit (suc zero) zero n u lo p q f g h k = absurd (omega (arith, one-mul n))
same_bit (suc zero) (suc zero) n u lo p q f g h k = refl
same_bit zero (suc (suc b)) n u lo p q f g h k = absurd (omega arith)
same_bit (suc zero) (suc (suc b)) n u lo p q f g h k = absurd (omega arith)
same_bit (suc (suc a)) b n u lo p q f g h k = absurd (omega arith)

module _ (X Y k x y : ℕ) (b : Rooted X Y (suc k) x y) where
  abbrev half : ℕ
  half = 2 ^ k

  twice : 2 ^ suc k ≡ half + half
  twice = two-pow-succ k

  column : (x + half) % 16 ≡ x % 16 + half
  column = shifted x half (omega (arith, twice, pow_pos k, b.right))

  row : (y + half) % 16 ≡ y % 16 + half
  row = shifted y half (omega (arith, twice, pow_pos k, b.bottom))

  centre_column : place k x y % 16 ≡ x % 16 + half
  centre_column = cell_column (3 - k) ((x + half) % 16) ((y + half) % 16) (omega arith) ∙ column

  centre_row : place k x y / 16 % 16 ≡ y % 16 + half
  centre_row = cell_row (3 - k) ((x + half) % 16) ((y + half) % 16) (omega arith) (omega arith) ∙ row

  pub owns_centre : Owns (suc k) x y (place k x y)
  owns_centre =
      let e = twice in
      let one = pow_pos k in
      let c = centre_column in
      let r = centre_row in
      record { level = omega arith; left = omega arith; right = omega arith; top = omega arith; bottom = omega arith }

  part_column : (i : ℕ) → i < 4 → part_x k x i % 16 ≡ x % 16 + i % 2 * half
  part_column i l = shifted x (i % 2 * half) (omega (arith, twice, pow_pos k, b.right, at_most_half (i % 2) half (omega arith)))

  part_row : (i : ℕ) → i < 4 → part_y k y i % 16 ≡ y % 16 + i / 2 * half
  part_row i l = shifted y (i / 2 * half) (omega (arith, twice, pow_pos k, b.bottom, at_most_half (i / 2) half (omega arith)))

  pub owns_part : (i : ℕ) → i < 4 → (p : ℕ) → Owns k (part_x k x i) (part_y k y i) p → Owns (suc k) x y p
  owns_part i l p o =
      let e = twice in
      let c = part_column i l in
      let r = part_row i l in
      let m = at_most_half (i % 2) half (omega arith) in
      let n = at_most_half (i / 2) half (omega arith) in
      record { level = omega arith; left = omega arith; right = omega arith; top = omega arith; bottom = omega arith }

  pub centre_no_part : (u v : ℕ) → Owns k u v (place k x y) → ⊥
  centre_no_part u v o = omega arith

  pub parts_apart : (i j : ℕ) → i < j → j < 4 → (p : ℕ) → Owns k (part_x k x i) (part_y k y i) p → Owns k (part_x k x j) (part_y k y j) p → ⊥
  parts_apart i j l m p a o =
      let c = part_column i (omega arith) in
      let d = part_column j m in
      let r = part_row i (omega arith) in
      let t = part_row j m in
      let e : i % 2 ≡ j % 2 = same_bit (i % 2) (j % 2) half (p % 16) (x % 16) (omega arith) (omega arith) (omega arith) (omega arith) (omega arith) (omega arith) in
      let f : i / 2 ≡ j / 2 = same_bit (i / 2) (j / 2) half (p / 16 % 16) (y % 16) (omega arith) (omega arith) (omega arith) (omega arith) (omega arith) (omega arith) in
      omega arith
