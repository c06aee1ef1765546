-- What deblocking of a band refuses: 1, 14, 2, 3, then 4 or 5 as the walk meets them, 15, 6, 7. Lent are the band above, if any, and the band, and the band's own
-- split bytes; 15, 6 and 7 judge the band and the row of units above it.
-- Assumes nothing: these are definitions.
use Rattle.std.specs.Prelude.{ℕ, Err}
use Rattle.laws.specs.Call.{unless}
use Rattle.def.specs.Picture.{size_ok}
use Rattle.def.specs.Answers.{Answer}
use Rattle.def.specs.declared.Refusal.TheVariants.{Size, Band}
use Rattle.band_rows.specs.Rows.{band_ok, lent_rows}
use Rattle.df_check.specs.Checks as checks

-- the position's next band, the band that the call names, and what is lent: w and h are the picture's sides
pub record Input : Type 0 where
  pub next : ℕ
  pub band : ℕ
  pub lent : checks.Input

-- 14 is a band that is not the position's next, or past the last
unfoldable pub check_of : Input → Answer
check_of i =
    let rows = lent_rows i.lent.h i.band in
    unless (size_ok i.lent.w i.lent.h) (Err Size)
    (unless (band_ok i.next i.band i.lent.h) (Err Band)
    (checks.from_lengths rows.all rows.own rows.before i.lent))
