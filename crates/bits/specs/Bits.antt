-- A slice of bytes as a row of bits, the high bit of each byte first.
-- Assumes nothing: these are definitions.
use Rattle.std.specs.Prelude.{List, ℕ, zero, suc, ◌+◌, ◌-◌, ◌/◌, ◌%◌, get_or, set}
use Rattle.laws.specs.Bits.{field_of, with_field}
use Rattle.laws.specs.Index.{tabulate}

-- the bit at place p: 0 past the end
unfoldable pub bit_at : List ℕ → ℕ → ℕ
bit_at s p = field_of (7 - p % 8) 1 (get_or s (p / 8) 0)

-- s with the bit b at place p: s itself where p is past the end
unfoldable pub with_bit : List ℕ → ℕ → ℕ → List ℕ
with_bit s p b = set s (p / 8) (with_field (7 - p % 8) 1 b (get_or s (p / 8) 0))

-- the n bits from place p on
abbrev pub bits_from : List ℕ → ℕ → ℕ → List ℕ
bits_from s p n = tabulate n (λ (i : ℕ). bit_at s (p + i))

-- s with the n bits f 0, f 1, .. from place p on
unfoldable pub with_bits : List ℕ → ℕ → (ℕ → ℕ) → ℕ → List ℕ
with_bits s p f zero = s
with_bits s p f (suc n) = with_bit (with_bits s p f n) (p + n) (f n)
