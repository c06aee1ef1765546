-- One unit's edge, filtered in one plane: its window there, at its strength, and nothing of it written in a kept unit. w is the picture's width in units.
-- Assumes nothing: these are definitions.
use Rattle.std.specs.Prelude.{ℕ, ◌+◌, ◌*◌, false, List}
use Rattle.def.specs.declared.Component.{Component}
use Rattle.def.specs.declared.Component.TheVariants.{Luma, Chroma}
use Rattle.laws.specs.Orders.{run}
use Rattle.line.specs.declared.Mask.{Mask}
use Rattle.line.specs.Line.{mask_of}
use Rattle.split.specs.Edges.{Pass, vertical, horizontal, Edge}
use Rattle.split.specs.Rows.{cross_of, along_of}
use Rattle.df_rules.specs.Places.{unit_side, step_across, step_along, line_start, unit_q, unit_p}
use Rattle.df_rules.specs.Strength.{Maps, kept_at, strength}
use Rattle.df_rules.specs.Window.{window_at}

-- the lines of a unit's edge, of which the mask says what is written
abbrev pub window : Mask → Pass → Component → (w st : ℕ) → Edge → List ℕ → List ℕ
window k d c w st e =
    let m = unit_side c in
    window_at k st (step_across d (m * w)) (step_along d (m * w)) (line_start d (m * w) (m * cross_of d e) (m * along_of d e)) m

-- by the keep marks of its two units
abbrev pub mask_at : Maps → Pass → Component → (w : ℕ) → Edge → Mask
mask_at m d c w e = mask_of c (kept_at m (unit_p d w e)) (kept_at m (unit_q w e))

-- and at its strength
abbrev pub filtered : Maps → (entries : List ℕ) → (at : ℕ → ℕ) → Pass → Component → (w : ℕ) → Edge → List ℕ → List ℕ
filtered m entries at d c w e = window (mask_at m d c w e) d c w (strength m entries at d w e) e

-- ---- in all three planes, by the entries of a pass: 208 for luma, at 52 * row + QP, then 208 for U and 208 for V

abbrev pub in_y : ℕ → ℕ
in_y qp = qp

abbrev pub in_u : ℕ → ℕ
in_u qp = 208 + qp

abbrev pub in_v : ℕ → ℕ
in_v qp = 416 + qp

pub record Planes : Type 0 where
  pub y : List ℕ
  pub u : List ℕ
  pub v : List ℕ

abbrev pub filter_one : Maps → (entries : List ℕ) → Pass → (w : ℕ) → Edge → Planes → Planes
filter_one m t d w e p =
    record {
      y = filtered m t in_y d Luma w e p.y;
      u = filtered m t in_u d Chroma w e p.u;
      v = filtered m t in_v d Chroma w e p.v;
    }

-- a list of edges, one after the other
abbrev pub filter_all : Maps → (entries : List ℕ) → Pass → (w : ℕ) → List Edge → Planes → Planes
filter_all m t d w l p = run (filter_one m t d w) l p

-- ---- a plane after both passes: the first list, and then the second. at: what Q's QP is mapped to

abbrev pub finished : Maps → (strengths : List ℕ) → (at : ℕ → ℕ) → Component → (w : ℕ) → (ups levels : List Edge) → List ℕ → List ℕ
finished m t at c w ups levels p =
    run (filtered m t at horizontal c w) levels (run (filtered m t at vertical c w) ups p)

-- ---- the same where no marks are looked at: luma writes all four samples of a line, chroma B and C. Maps of zeros come to it (`finished_unmarked_lem`, in proofs/)

abbrev pub unmarked : Maps → (entries : List ℕ) → (at : ℕ → ℕ) → Pass → Component → (w : ℕ) → Edge → List ℕ → List ℕ
unmarked m entries at d c w e = window (mask_of c false false) d c w (strength m entries at d w e) e

abbrev pub finished_unmarked : Maps → (strengths : List ℕ) → (at : ℕ → ℕ) → Component → (w : ℕ) → (ups levels : List Edge) → List ℕ → List ℕ
finished_unmarked m t at c w ups levels p =
    run (unmarked m t at horizontal c w) levels (run (unmarked m t at vertical c w) ups p)
