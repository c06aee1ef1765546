-- `df::band::Bands::deblock_band` meets its contract: where the checks refuse nothing was written, and where they found nothing the band is deblocked.
-- Assumes nothing.
use mathlib.Core.Path.{refl, sym, ◌∙◌}
use Rattle.df.specs.Band.{Input}
use Rattle.df.proofs.BandCalls.{band_refused}
use Rattle.df.proofs.band.Bands.deblock_band.Statement.{statement}
use Rattle.df.proofs.band.Bands.deblock_band.Tie as tie

input_of : tie.Start → Input
input_of s =
    let a = s.args in
    record {
      next = a.self.next;
      band = a.band;
      w = a.w;
      h = a.h;
      y = a.y.now;
      u = a.u.now;
      v = a.v.now;
      words = a.words.now;
      splits = a.splits.now;
      motion = a.motion.now;
      refs = a.refs.now;
      keep = a.keep.now;
      table0 = a.table0.now;
      table1 = a.table1.now;
      strengths = a.strengths.now;
      settings = a.settings;
    }

returns : tie.Need-returns-in-Err
unfolding input_of
returns c = band_refused (input_of c.before.before.before.before.before.before.before.before.before) _
    c.checked_band.ensures _ c.in-Err.is

deblock_checked_requires : tie.Need-deblock_checked-requires
deblock_checked_requires c κs = sym c.checked_band.ensures ∙ c.in_default.is

pub deblock_band_spec : {M : Type 1} → statement M
deblock_band_spec =
    tie.close
    (tie.spec
    (λ c κs. tt)
    (λ c. search)
    (λ c. refl)
    (λ c. refl)
    (λ c. refl)
    (λ c. refl)
    returns
    (λ c. search)
    deblock_checked_requires
    (λ c. c.deblock_checked.auto.y)
    (λ c. c.deblock_checked.auto.u)
    (λ c. c.deblock_checked.auto.v)
    (λ c. c.deblock_checked.auto.words)
    (λ c. c.deblock_checked.ensures))
