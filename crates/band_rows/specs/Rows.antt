-- The bands of a picture: a band is a row of roots, 16 rows of units, the last one maybe fewer. k is a band's number.
-- Assumes nothing: these are definitions.
use Rattle.std.specs.Prelude.{ℕ, zero, suc, ◌+◌, ◌-◌, ◌*◌, ◌/◌, Bool, ◌&&◌, leb, eqb, ltb}
use Rattle.laws.specs.Index.{pick}
use Rattle.def.specs.Picture.{roots_along}
use Rattle.band_rows.specs.declared.LentRows.{LentRows}

-- the rows of units of band k, in a picture of h rows of units
unfoldable pub band_rows : (h k : ℕ) → ℕ
band_rows h k = pick (leb (16 * k + 16) h) 16 (h - 16 * k)

-- of what is lent for it: the rows of units above the band, and in the picture those before what is lent
abbrev pub rows_above : ℕ → ℕ
rows_above zero = 0
rows_above (suc k) = 16

abbrev pub rows_before : ℕ → ℕ
rows_before zero = 0
rows_before (suc k) = 16 * k

-- the position's next, and not past the last, in a picture of h luma rows
unfoldable pub band_ok : (next band h : ℕ) → Bool
band_ok next band h = eqb band next && ltb band (roots_along h)

-- the rows of luma samples that are lent for a band of it: of those above the band all but the last row of units are not judged
abbrev pub lent_rows : (h band : ℕ) → LentRows
lent_rows h band =
    let rows = band_rows (h / 4) band in
    let above = rows_above band in
    record { all = 4 * (above + rows); own = 4 * rows; before = 4 * (above - 1) }
