-- The compact form of a split map: its digits as bits, the high bit of each byte first, from the start of a byte on; the last byte is filled with zeros.
-- Positions are in bits.
-- Assumes nothing: these are definitions.
use Rattle.std.specs.Prelude.{Bool, List, ℕ, ◌+◌, ◌-◌, ◌*◌, ◌/◌, ◌^◌, min, eqb, leb, length, get_or, Ok, Err, Result}
use Rattle.bits.specs.Bits.{bit_at, bits_from, with_bits}
use Rattle.def.specs.Refusals.{number_of}
use Rattle.def.specs.declared.Refusal.{Refusal}
use Rattle.laws.specs.Scan.{all_below}

-- how many bits so many bytes have. No buffer is as long as 2 ^ 59 bytes; what would lie past them is not counted
abbrev pub bits_in : ℕ → ℕ
bits_in bytes = 8 * min bytes (2 ^ 59)

-- where a map at position p starts: on a byte, the next one if p lies inside one
abbrev pub start_of : ℕ → ℕ
start_of p = (p + 7) / 8 * 8

-- where a map of n digits ends: after the byte that its last digit lies in
abbrev pub end_of : (p n : ℕ) → ℕ
end_of p n = start_of p + (n + 7) / 8 * 8

-- ---- what a call that was handed position p answers: the position after the map, or why it is refused

-- the answer's number
abbrev pub placed_number : Result ℕ Refusal → ℕ
placed_number (Ok n) = 0
placed_number (Err r) = number_of r

-- the position that the caller has then: where the map is refused it stays
abbrev pub placed_at : ℕ → Result ℕ Refusal → ℕ
placed_at p (Ok n) = n
placed_at p (Err r) = p

-- ---- writing

-- the digits, and 0 after the last
abbrev pub digit_at : List ℕ → ℕ → ℕ
digit_at ds i = get_or ds i 0

-- the map's own bytes, put from position p on
unfoldable pub packed : List ℕ → ℕ → List ℕ → List ℕ
packed buf p ds = with_bits buf (start_of p) (digit_at ds) ((length ds + 7) / 8 * 8)

-- the room given has the map's own bytes
unfoldable pub room_ok : (bytes p n : ℕ) → Bool
room_ok bytes p n = leb (end_of p n) (bits_in bytes)

-- ---- reading

-- the bits of a buffer from position p on
abbrev pub digits_from : List ℕ → ℕ → List ℕ
digits_from src p = bits_from src (start_of p) (bits_in (length src) - start_of p)

-- the bits from place p up to place q are 0
unfoldable pub zeros_ok : List ℕ → (p q : ℕ) → Bool
zeros_ok src p q = all_below (λ (i : ℕ). eqb (bit_at src (p + i)) 0) (q - p)

-- those that fill the last byte of a map of n digits
abbrev pub fill_ok : List ℕ → (p n : ℕ) → Bool
fill_ok src p n = zeros_ok src (start_of p + n) (end_of p n)
