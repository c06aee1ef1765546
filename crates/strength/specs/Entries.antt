-- The strength entries of a pass, one table for the three planes: the lent ones for luma, 52 a row in four rows, and as many for U and for V, each at the mapped QP.
-- A grey picture has luma's alone. A place that the lent entries do not have reads as 0.
-- Assumes nothing: these are definitions.
use Rattle.std.specs.Prelude.{ℕ, ◌+◌, ◌*◌, ◌/◌, ◌%◌, List, ltb, ℤ, get_or}
use Rattle.laws.specs.Index.{pick, tabulate}
use Rattle.def.specs.declared.Format.{Format}
use Rattle.def.specs.declared.Format.TheVariants.{Grey, Colour}
use Rattle.strength.specs.ChromaQp.{mapped}

-- a chroma plane's, in a row at a QP
unfoldable pub chroma_entry : (strengths : List ℕ) → (table : List ℤ) → (offset : ℤ) → (row qp : ℕ) → ℕ
chroma_entry strengths table offset row qp = get_or strengths (52 * row + mapped table offset qp) 0

-- the place i of four rows copied from a list's first four, each entry at the QP that stands in place of its own
abbrev pub rows_by : (list qps : List ℕ) → ℕ → ℕ
rows_by list qps i = get_or list (52 * (i / 52) + get_or qps (i % 52) 0) 0

-- at place i: luma's below 208, U's below 416, and V's
unfoldable pub entry_at : (strengths : List ℕ) → (tableU : List ℤ) → (uOffset : ℤ) → (tableV : List ℤ) → (vOffset : ℤ) → ℕ → ℕ
entry_at strengths tableU uOffset tableV vOffset i =
    pick (ltb i 208) (get_or strengths i 0)
    (pick (ltb i 416) (chroma_entry strengths tableU uOffset (i % 208 / 52) (i % 52))
    (chroma_entry strengths tableV vOffset (i % 208 / 52) (i % 52)))

unfoldable pub entries_of : (strengths : List ℕ) → (tableU : List ℤ) → (uOffset : ℤ) → (tableV : List ℤ) → (vOffset : ℤ) → List ℕ
entries_of strengths tableU uOffset tableV vOffset = tabulate 624 (entry_at strengths tableU uOffset tableV vOffset)

-- luma's entries alone: 0 at the places of the chroma planes
unfoldable pub luma_at : (strengths : List ℕ) → ℕ → ℕ
luma_at strengths i = pick (ltb i 208) (get_or strengths i 0) 0

unfoldable pub luma_entries : (strengths : List ℕ) → List ℕ
luma_entries strengths = tabulate 624 (luma_at strengths)

-- the entries of a picture: those of the three planes in colour, and luma's alone in grey
unfoldable pub entries_in : Format → (strengths : List ℕ) → (tableU : List ℤ) → (uOffset : ℤ) → (tableV : List ℤ) → (vOffset : ℤ) → List ℕ
entries_in Grey strengths tableU uOffset tableV vOffset = luma_entries strengths
entries_in Colour strengths tableU uOffset tableV vOffset = entries_of strengths tableU uOffset tableV vOffset
