-- A number's bits by their places.
-- Assumes nothing: these are definitions.
use Rattle.std.specs.Prelude.{ℕ, ◌+◌, ◌*◌, ◌/◌, ◌%◌, ◌^◌}

-- the n bits from place p on
unfoldable pub field_of : (p n x : ℕ) → ℕ
field_of p n x = x / 2 ^ p % 2 ^ n

-- x with v at the n bits from place p on
unfoldable pub with_field : (p n v x : ℕ) → ℕ
with_field p n v x = (x / 2 ^ (p + n) * 2 ^ n + v) * 2 ^ p + x % 2 ^ p
