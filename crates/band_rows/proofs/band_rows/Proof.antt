-- `band_rows::band_rows` meets its contract: by which band it is. Assumes nothing.
use native.Mathlib.Omega.{arith}
use Rattle.band_rows.proofs.Bands.{rows_full, rows_last, rows_none}
use Rattle.band_rows.proofs.band_rows.Statement.{statement}
use Rattle.band_rows.proofs.band_rows.Tie as tie

returns : tie.Need-returns-then-band-rows
returns c = rows_full _ _ c.if-band-rows.true

returns-2 : tie.Need-returns-then-band-rows-2
returns-2 c = rows_last _ _ c.if-band-rows-2.true

returns-3 : tie.Need-returns
returns-3 c = rows_none _ _ (omega (arith, c.if-band-rows.false, c.if-band-rows-2.false))

pub band_rows_spec : {M : Type 1} → statement M
band_rows_spec = tie.close (tie.spec returns returns-2 returns-3)
