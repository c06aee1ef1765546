-- The call `deblock` of a band position: one band of a picture of w by h, done by itself. What is lent is the band above, if any, followed by the band (`top`
-- and `rows` in units), and the band's own split bytes. The band's lists are filtered where they lie in what is lent, first the vertical, then the horizontal,
-- its top edge included; done is set in the band's units.
-- Assumes nothing: these are definitions.
use Rattle.std.specs.Prelude.{ℕ, ◌+◌, ◌-◌, ◌*◌, ◌/◌, List, eqb, ℤ, length, drop, Ok, Err, Result}
use Rattle.def.specs.Answers.{after_checks}
use Rattle.def.specs.Answers.{Answer}
use Rattle.def.specs.declared.Component.{Component}
use Rattle.def.specs.declared.Component.TheVariants.{Luma, Chroma}
use Rattle.def.specs.declared.Refusal.{Refusal}
use Rattle.def.specs.Refusals.{number_of}
use Rattle.split.specs.Edges.{Pass, vertical, horizontal, Edge}
use Rattle.strength.specs.ChromaQp.{mapped}
use Rattle.df_check.specs.BandCheck as bands
use Rattle.df_check.specs.declared.Settings.{Settings}
use Rattle.df_rules.specs.Filter.{finished}
use Rattle.df_rules.specs.Strength.{Maps}
use Rattle.df.specs.declared.band.Banded.{Banded}
use Rattle.split.specs.declared.EdgeCounts.{EdgeCounts}
use Rattle.bands_rules.specs.Bands.{list_from, done_from, places_of}
use Rattle.band_rows.specs.Rows.{band_rows, rows_above}

pub record Input : Type 0 where
  pub next : ℕ
  pub band : ℕ
  pub w : ℕ
  pub h : ℕ
  pub y : List ℕ
  pub u : List ℕ
  pub v : List ℕ
  pub words : List ℕ
  pub splits : List ℕ
  pub motion : List ℤ
  pub refs : List ℤ
  pub keep : List ℕ
  pub table0 : List ℤ
  pub table1 : List ℤ
  pub strengths : List ℕ
  pub settings : Settings

-- the answer's number, the band's edge counts, and the position that is handed back
pub record Reading : Type 0 where
  pub number : ℕ
  pub vertical : ℕ
  pub horizontal : ℕ
  pub next : ℕ

abbrev pub counted : Result EdgeCounts Refusal → ℕ → Reading
counted (Ok c) n = record { number = 0; vertical = c.vertical; horizontal = c.horizontal; next = n }
counted (Err r) n = record { number = number_of r; vertical = 0; horizontal = 0; next = n }

abbrev pub reading_of : Banded → Reading
reading_of b = counted b.counts b.next.next

pub record Outcome : Type 0 where
  pub reading : Reading
  pub y : List ℕ
  pub u : List ℕ
  pub v : List ℕ
  pub words : List ℕ

-- units a row; rows of units of the band, above it in what is lent, and of these those that are checked
abbrev pub wide : Input → ℕ
wide i = i.w / 4

abbrev pub rows : Input → ℕ
rows i = band_rows (i.h / 4) i.band

abbrev pub top : Input → ℕ
top i = rows_above i.band

-- 15, 6 and 7 judge the band and the row of units above it: what lies before that row is not looked at
abbrev pub unchecked : Input → ℕ
unchecked i = top i - 1

abbrev pub checked_words : Input → List ℕ
checked_words i = drop (unchecked i * wide i) i.words

abbrev pub checked_marks : Input → List ℕ
checked_marks i = drop (unchecked i * wide i) i.keep

abbrev pub checked_plane : Input → Component → List ℕ → List ℕ
checked_plane i c p = drop (places_of c (wide i) (unchecked i)) p

-- 1, 14, 2, 3, 4 or 5 of the band's own walk, 15, 6, 7
abbrev pub checked : Input → bands.Input
checked i =
    record {
      next = i.next;
      band = i.band;
      lent = record {
        w = i.w;
        h = i.h;
        y = i.y;
        u = i.u;
        v = i.v;
        words = i.words;
        splits = i.splits;
        motion = length i.motion;
        refs = length i.refs;
        keep = i.keep;
        table0 = length i.table0;
        table1 = length i.table1;
        strengths = length i.strengths;
        settings = i.settings;
      };
    }

abbrev pub check : Input → Answer
check i = bands.check_of (checked i)

abbrev pub pass_edges : Pass → Input → List Edge
pass_edges d i = list_from d (eqb i.settings.limit 5) (top i) i.splits (wide i) (rows i)

abbrev pub qp_y : Input → ℕ → ℕ
qp_y i qp = qp

abbrev pub qp_u : Input → ℕ → ℕ
qp_u i qp = mapped i.table0 i.settings.u_offset qp

abbrev pub qp_v : Input → ℕ → ℕ
qp_v i qp = mapped i.table1 i.settings.v_offset qp

abbrev pub maps_of : Input → Maps
maps_of i = record { words = i.words; over = record { motion = i.motion; refs = i.refs; keep = i.keep } }

abbrev pub deblocked : Input → Component → (ℕ → ℕ) → List ℕ → List ℕ
deblocked i c at p = finished (maps_of i) i.strengths at c (wide i) (pass_edges vertical i) (pass_edges horizontal i) p

abbrev pub refused : Input → Refusal → Outcome
refused i r = record { reading = record { number = number_of r; vertical = 0; horizontal = 0; next = i.next }; y = i.y; u = i.u; v = i.v; words = i.words }

abbrev pub done : Input → Outcome
done i =
    record {
      reading = record { number = 0; vertical = length (pass_edges vertical i); horizontal = length (pass_edges horizontal i); next = i.next + 1 };
      y = deblocked i Luma (qp_y i) i.y;
      u = deblocked i Chroma (qp_u i) i.u;
      v = deblocked i Chroma (qp_v i) i.v;
      words = done_from (top i * wide i) i.words;
    }

unfoldable pub outcome : Input → Outcome
outcome i = after_checks (refused i) (done i) (check i)
