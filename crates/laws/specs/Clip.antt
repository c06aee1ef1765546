-- Whole numbers: the larger, the smaller, the size, and a number held within bounds.
-- Assumes nothing: these are definitions.
use Rattle.std.specs.Prelude.{ℕ, cond, ℤ, pos, neg_ℤ, nat_abs}
use Rattle.std.specs.Int.Signed.{lt_z}

unfoldable pub max_z : ℤ → ℤ → ℤ
max_z x y = cond (lt_z x y) y x

unfoldable pub min_z : ℤ → ℤ → ℤ
min_z x y = cond (lt_z x y) x y

-- x held within lo..hi
unfoldable pub clip_z : ℤ → ℤ → ℤ → ℤ
clip_z lo hi x = max_z lo (min_z hi x)

unfoldable pub abs_z : ℤ → ℤ
abs_z x = pos (nat_abs x)

-- m with the sign of d
unfoldable pub with_sign : ℤ → ℤ → ℤ
with_sign d m = cond (lt_z d (pos 0)) (neg_ℤ m) m

-- clip(0, top, x), a number without a sign
unfoldable pub held_to : (top : ℕ) → ℤ → ℕ
held_to top x = nat_abs (clip_z (pos 0) (pos top) x)

-- the sample at a number
unfoldable pub sample_z : ℤ → ℕ
sample_z x = held_to 1023 x
