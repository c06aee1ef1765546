-- The maps of a picture, and the strength of a unit's edge in a plane: a row by the two units, the entry at Q's QP, mapped for chroma, four times.
-- Assumes nothing: these are definitions.
use Rattle.std.specs.Prelude.{ℕ, ◌+◌, ◌*◌, Bool, List, eqb, ℤ, pos, get_or}
use Rattle.def.specs.Word.{qp_of}
use Rattle.line.specs.declared.Motion.{Motion}
use Rattle.line.specs.Row.{row_of}
use Rattle.split.specs.Edges.{Pass, Edge}
use Rattle.df_rules.specs.Places.{unit_q, unit_p}

-- what lies over a picture beside its words, and no call changes: four numbers of motion, two references and a keep mark a unit
pub record Over : Type 0 where
  pub motion : List ℤ
  pub refs : List ℤ
  pub keep : List ℕ

-- what the row, the QP and the marks are read from: the words, one a unit, and what lies over them
pub record Maps : Type 0 where
  pub words : List ℕ
  pub over : Over

-- a unit is kept where its mark is 1. The calls refuse a mark that is neither 0 nor 1
abbrev pub kept_at : Maps → ℕ → Bool
kept_at m k = eqb (get_or m.over.keep k 0) 1

abbrev pub motion_at : (motion refs : List ℤ) → ℕ → Motion
motion_at m r k =
    record {
      refi0 = get_or r (2 * k) (pos 0);
      refi1 = get_or r (2 * k + 1) (pos 0);
      x0 = get_or m (4 * k) (pos 0);
      y0 = get_or m (4 * k + 1) (pos 0);
      x1 = get_or m (4 * k + 2) (pos 0);
      y1 = get_or m (4 * k + 3) (pos 0);
    }

-- of the units q and p, by words, motion and references alone
unfoldable pub row_by : (words : List ℕ) → (motion refs : List ℤ) → (q p : ℕ) → ℕ
row_by words motion refs q p = row_of (get_or words q 0) (get_or words p 0) (motion_at motion refs q) (motion_at motion refs p)

abbrev pub row_at : Maps → (q p : ℕ) → ℕ
row_at m q p = row_by m.words m.over.motion m.over.refs q p

abbrev pub qp_at : Maps → ℕ → ℕ
qp_at m q = qp_of (get_or m.words q 0)

-- four times the entry. at: luma's QP itself, or what it is mapped to
unfoldable pub strength_of : Maps → (entries : List ℕ) → (at : ℕ → ℕ) → (q p : ℕ) → ℕ
strength_of m entries at q p = 4 * get_or entries (52 * row_at m q p + at (qp_at m q)) 0

abbrev pub strength : Maps → (entries : List ℕ) → (at : ℕ → ℕ) → Pass → ℕ → Edge → ℕ
strength m entries at d w e = strength_of m entries at (unit_q w e) (unit_p d w e)
