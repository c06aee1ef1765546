-- The place of an edge's strength and its keep marks, of two numbers that may be units of a picture's maps or not.
-- Assumes nothing: these are definitions.
use Rattle.std.specs.Prelude.{ℕ, ◌+◌, ◌*◌, ◌%◌, List, ltb, ℤ, length, get_or}
use Rattle.laws.specs.Bits.{field_of}
use Rattle.laws.specs.Index.{pick}
use Rattle.def.specs.Word.{qp_of}
use Rattle.split.specs.Edges.{Pass}
use Rattle.row.specs.Between.{row_in}
use Rattle.rows_rules.specs.Rule.{first_bit}

-- the row of the edge between q and p: as the map of edge rows has it, where that has q's byte, and else as the other maps have it
unfoldable pub lent_row : Pass → (words : List ℕ) (motion refs : List ℤ) (rows : List ℕ) → (q p : ℕ) → ℕ
lent_row d words motion refs rows q p = pick (ltb q (length rows)) (field_of (first_bit d) 2 (get_or rows q 0)) (row_in words motion refs q p)

-- the place of its strength among a plane's entries, in a byte; q's QP is 0 where q has no word
unfoldable pub place_in : Pass → (words : List ℕ) (motion refs : List ℤ) (rows : List ℕ) → (q p : ℕ) → ℕ
place_in d words motion refs rows q p = (52 * lent_row d words motion refs rows q p + qp_of (get_or words q 0)) % 256

-- its keep marks as one number, P's and twice Q's, in a byte; 0 where there is none
unfoldable pub marks_in : (keep : List ℕ) → (q p : ℕ) → ℕ
marks_in keep q p = (get_or keep p 0 + 2 * get_or keep q 0) % 256
