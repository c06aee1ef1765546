-- The QP of a chroma plane: the lent table at clip(-12, 57, QP + offset), held within 0..51, where a row has entries.
-- Assumes nothing: these are definitions.
use Rattle.std.specs.Prelude.{ℕ, ◌+◌, List, ℤ, pos, negsuc, nat_abs, ◌+ℤ◌, get_or}
use Rattle.laws.specs.Clip.{clip_z, held_to}
use Rattle.laws.specs.Index.{tabulate}

-- clip(-12, 57, QP + offset), and its index in a table, 12 more
unfoldable pub index_of : (offset : ℤ) → ℕ → ℕ
index_of offset qp = nat_abs (pos 12 +ℤ clip_z (negsuc 11) (pos 57) (pos qp +ℤ offset))

unfoldable pub mapped_z : (table : List ℤ) → (offset : ℤ) → ℕ → ℤ
mapped_z table offset qp = get_or table (index_of offset qp) (pos 0)

-- the nearest end: a mapped value below 0 reads entry 0, above 51 entry 51
abbrev pub held_qp : ℤ → ℕ
held_qp z = held_to 51 z

abbrev pub mapped : (table : List ℤ) → (offset : ℤ) → ℕ → ℕ
mapped table offset qp = held_qp (mapped_z table offset qp)

-- those of the 52 QPs of a row
abbrev pub mapped_qps : (table : List ℤ) → (offset : ℤ) → List ℕ
mapped_qps table offset = tabulate 52 (mapped table offset)

-- the same where the QPs' places in the table follow one another, from the first on
abbrev pub straight_qps : (table : List ℤ) → (first : ℕ) → List ℕ
straight_qps table first = tabulate 52 (λ (qp : ℕ). held_qp (get_or table (first + qp) (pos 0)))
