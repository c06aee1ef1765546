-- Deblocking's promise, read in numbers.
-- Assumes nothing.
use Rattle.std.specs.Prelude.{Result}
use Prim.Native.Nat.{ℕ}
use mathlib.Core.Path.{◌≡◌, ap, ◌∙◌}
use mathlib.Core.List.{List}
use Rattle.df_check.specs.declared.Settings.{Settings}
use Rattle.df.specs.Band as banding
use Rattle.df.specs.ByRows as rowing
use Rattle.df.specs.Deblock as deblocking
use Rattle.df.specs.declared.band.Banded.{Banded}
use Rattle.def.specs.declared.Refusal.{Refusal}
use Rattle.split.specs.declared.EdgeCounts.{EdgeCounts}

abbrev Numbers : Result EdgeCounts Refusal → ℕ → ℕ → ℕ → Type 0
Numbers a n v h = (n ≡ (deblocking.reading_of a).number) × (v ≡ (deblocking.reading_of a).vertical) × (h ≡ (deblocking.reading_of a).horizontal)

-- the input with other settings
abbrev with : deblocking.Input → Settings → deblocking.Input
with i s = record {
  w = i.w;
  h = i.h;
  y = i.y;
  u = i.u;
  v = i.v;
  words = i.words;
  splits = i.splits;
  motion = i.motion;
  refs = i.refs;
  keep = i.keep;
  table0 = i.table0;
  table1 = i.table1;
  strengths = i.strengths;
  settings = s;
}

pub deblocked_gives : (i : deblocking.Input) (s : Settings) (a : Result EdgeCounts Refusal) (n vertical horizontal : ℕ) (y u v words : List ℕ) → s ≡ i.settings
    → record { reading = deblocking.reading_of a; y = y; u = u; v = v; words = words } ≡ deblocking.outcome (with i s) → Numbers a n vertical horizontal
    → record { reading = record { number = n; vertical = vertical; horizontal = horizontal }; y = y; u = u; v = v; words = words } ≡ deblocking.outcome i
deblocked_gives i s a n vertical horizontal y u v words q p e = rw (e.0, e.1, e.2) (p ∙ ap (λ (t : Settings). deblocking.outcome (with i t)) q)

-- ---- by a map of edge rows

pub rowed_gives : (i : rowing.Input) (s : Settings) (a : Result EdgeCounts Refusal) (n vertical horizontal : ℕ) (y u v words : List ℕ) → s ≡ i.given.settings
    → record { reading = deblocking.reading_of a; y = y; u = u; v = v; words = words } ≡ rowing.outcome (record { given = with i.given s; rows = i.rows }) → Numbers a n vertical horizontal
    → record { reading = record { number = n; vertical = vertical; horizontal = horizontal }; y = y; u = u; v = v; words = words } ≡ rowing.outcome i
rowed_gives i s a n vertical horizontal y u v words q p e =
    rw (e.0, e.1, e.2) (p ∙ ap (λ (t : Settings). rowing.outcome (record { given = with i.given t; rows = i.rows })) q)

-- ---- of a band

abbrev BandNumbers : Banded → ℕ → ℕ → ℕ → ℕ → Type 0
BandNumbers a n v h k = (n ≡ (banding.reading_of a).number) × (v ≡ (banding.reading_of a).vertical) × (h ≡ (banding.reading_of a).horizontal) × (k ≡ (banding.reading_of a).next)

abbrev band_with : banding.Input → Settings → banding.Input
band_with i s =
    record {
      next = i.next;
      band = i.band;
      w = i.w;
      h = i.h;
      y = i.y;
      u = i.u;
      v = i.v;
      words = i.words;
      splits = i.splits;
      motion = i.motion;
      refs = i.refs;
      keep = i.keep;
      table0 = i.table0;
      table1 = i.table1;
      strengths = i.strengths;
      settings = s;
    }

pub banded_gives : (i : banding.Input) (s : Settings) (a : Banded) (n vertical horizontal next : ℕ) (y u v words : List ℕ) → s ≡ i.settings
    → record { reading = banding.reading_of a; y = y; u = u; v = v; words = words } ≡ banding.outcome (band_with i s) → BandNumbers a n vertical horizontal next
    → record { reading = record { number = n; vertical = vertical; horizontal = horizontal; next = next }; y = y; u = u; v = v; words = words } ≡ banding.outcome i
banded_gives i s a n vertical horizontal next y u v words q p e = rw (e.0, e.1, e.2, e.3) (p ∙ ap (λ (t : Settings). banding.outcome (band_with i t)) q)
