-- The unit word: intra bit 15, QP bits 16..22, luma-coded bit 24, done bit 31. Every reader and writer is one by bit places.
-- Assumes nothing: these are definitions.
use Rattle.std.specs.Prelude.{ℕ, ◌%◌, Bool, true, false, eqb}
use Rattle.laws.specs.Bits.{field_of, with_field}

-- the flag at place p
unfoldable pub flag_at : ℕ → ℕ → Bool
flag_at p w = eqb (field_of p 1 w) 1

abbrev pub intra_of : ℕ → Bool
intra_of w = flag_at 15 w

abbrev pub qp_of : ℕ → ℕ
qp_of w = field_of 16 7 w

abbrev pub coded_of : ℕ → Bool
coded_of w = flag_at 24 w

abbrev pub done_of : ℕ → Bool
done_of w = flag_at 31 w

abbrev pub with_done : ℕ → ℕ
with_done w = with_field 31 1 1 w

abbrev pub without_done : ℕ → ℕ
without_done w = with_field 31 1 0 w

abbrev pub bit : Bool → ℕ
bit true = 1
bit false = 0

-- the word of a leaf's units once it is done; every other bit is 0
unfoldable pub leaf_word : Bool → ℕ → Bool → ℕ
leaf_word intra qp coded = with_done (with_field 24 1 (bit coded) (with_field 16 7 (qp % 128) (with_field 15 1 (bit intra) 0)))
