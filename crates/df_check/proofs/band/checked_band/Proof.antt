-- `df_check::band::checked_band` meets its contract: the size, the position, and then what comes from the lengths on. Assumes nothing.
use mathlib.Core.Bool.{true}
use mathlib.Core.Path.{◌≡◌, sym, subst, ◌∙◌}
use borrow.Author.Rules.{rules}
use Rattle.laws.proofs.Calls.{stops, goes_on}
use Rattle.def.specs.Picture.{size_ok}
use Rattle.def.proofs.Sizes.{sized}
use Rattle.band_rows.specs.Rows.{band_ok}
use Rattle.band_rows.specs.declared.LentRows.{LentRows}
use Rattle.band_rows.proofs.Bands.{BandSize, band_size}
use Rattle.df_check.specs.BandCheck.{check_of}
use Rattle.df_check.specs.Checks.{Input, from_lengths}
use Rattle.df_check.proofs.band.checked_band.Statement.{statement}
use Rattle.df_check.proofs.band.checked_band.Tie as tie

size : (c : tie.Else-not-size_ok) → let a = c.args in size_ok a.w a.h ≡ true
size c = sym c.size_ok.ensures ∙ c.if-not-size_ok.false

position : (c : tie.Else-not-band_ok) → let a = c.args in band_ok a.next a.band a.h ≡ true
position c = sym c.band_ok.ensures ∙ c.if-not-band_ok.false

sizes : (c : tie.Else-not-band_ok) → let a = c.args in BandSize a.w a.h a.band
sizes c = band_size _ _ (sized _ _ (size c.before.before)) (position c)

returns : tie.Need-returns-then-not-size_ok
unfolding check_of
returns c = stops _ _ _ _ c.size_ok.ensures c.if-not-size_ok.true-raw

returns-2 : tie.Need-returns-then-not-band_ok
unfolding check_of
returns-2 c =
    goes_on _ _ _ _ _ c.size_ok.ensures c.if-not-size_ok.false-raw (stops _ _ _ _ c.band_ok.ensures c.if-not-band_ok.true-raw)

from_lengths_requires : tie.Need-from_lengths-requires
from_lengths_requires c κs =
    let z = sizes c.before in
    rw c.lent_rows-rows.ensures (z.lent, z.own, z.judged)

returns-3 : tie.Need-returns
unfolding check_of
returns-3 c =
    let a = c.args in
    let i : Input = record {
      w = a.w;
      h = a.h;
      y = a.y.now;
      u = a.u.now;
      v = a.v.now;
      words = a.words.now;
      splits = a.splits.now;
      motion = a.motion;
      refs = a.refs;
      keep = a.keep.now;
      table0 = a.table0;
      table1 = a.table1;
      strengths = a.strengths;
      settings = a.settings;
    } in
    goes_on _ _ _ _ _ c.size_ok.ensures c.if-not-size_ok.false-raw
    (goes_on _ _ _ _ _ c.band_ok.ensures c.if-not-band_ok.false-raw
    (subst (λ (rows : LentRows). c.from_lengths.result ≡ from_lengths rows.all rows.own rows.before i) c.lent_rows-rows.ensures c.from_lengths.ensures))

pub checked_band_spec : {M : Type 1} → statement M
checked_band_spec =
    tie.close
    (tie.spec (λ c κs. search rules) returns (λ c κs. search rules) returns-2 (λ c κs. search rules) from_lengths_requires returns-3)
