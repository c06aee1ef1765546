-- What is proved of every map of edge rows: filling makes it right; edits, any number of them, keep a right one right; and an edit of any map sets the bits of
-- its unit's four edges and no other. Edits are the calls' own outcomes, so that one which is refused leaves all as it was.
-- Assumes nothing: these are definitions.
use Rattle.std.specs.Prelude.{ℕ, ◌+◌, ◌*◌, ◌/◌, ◌%◌, ◌<◌, ◌≡◌, Bool, List, ℤ, length, get_or}
use Rattle.laws.specs.Bits.{field_of}
use Rattle.laws.specs.Index.{pick}
use Rattle.laws.specs.Orders.{run}
use Rattle.line.specs.declared.Motion.{Motion}
use Rattle.split.specs.Edges.{Pass}
use Rattle.rows_rules.specs.FillCall as fill
use Rattle.unit_edits.specs.FlagCall as flag
use Rattle.rows_rules.specs.MotionCall as move
use Rattle.rows_rules.specs.Rule.{first_bit, edge_row, RightMap, edge_of}
use Rattle.unit_edits.specs.declared.Flag.{Flag}

-- a picture's maps with their map of edge rows
pub record Held : Type 0 where
  pub words : List ℕ
  pub motion : List ℤ
  pub refs : List ℤ
  pub rows : List ℕ

abbrev pub Right : (w h : ℕ) → Held → Type 0
Right w h s = RightMap w h s.words s.motion s.refs s.rows

-- what the call that fills the map makes of it
abbrev pub fill_of : (w h : ℕ) → Held → fill.Outcome
fill_of w h s = fill.outcome (record { w = w; h = h; words = s.words; motion = s.motion; refs = s.refs; rows = s.rows })

-- an edit of the unit at column x, row y
pub data Edit : Type 0 where
  moves : (x y : ℕ) → Motion → Edit
  flags : (x y : ℕ) → Flag → Bool → Edit

-- the unit's place in maps of a picture w wide
abbrev pub edit_place : ℕ → Edit → ℕ
edit_place w (moves x y m) = y * (w / 4) + x
edit_place w (flags x y f on) = y * (w / 4) + x

abbrev pub motion_input : (w h : ℕ) → Held → (x y : ℕ) → Motion → move.Input
motion_input w h s x y m = record { w = w; h = h; x = x; y = y; moved = m; words = s.words; motion = s.motion; refs = s.refs; rows = s.rows }

abbrev pub flag_input : (w h : ℕ) → Held → (x y : ℕ) → Flag → Bool → flag.Input
flag_input w h s x y f on = record { w = w; h = h; x = x; y = y; flag = f; on = on; words = s.words; motion = s.motion; refs = s.refs; rows = s.rows }

-- its answer, and what is held after it
abbrev pub number_of : (w h : ℕ) → Edit → Held → ℕ
number_of w h (moves x y m) s = (move.outcome (motion_input w h s x y m)).number
number_of w h (flags x y f on) s = (flag.outcome (flag_input w h s x y f on)).number

abbrev pub after : (w h : ℕ) → Edit → Held → Held
after w h (moves x y m) s = let o = move.outcome (motion_input w h s x y m) in record { words = s.words; motion = o.motion; refs = o.refs; rows = o.rows }
after w h (flags x y f on) s = let o = flag.outcome (flag_input w h s x y f on) in record { words = o.words; motion = s.motion; refs = s.refs; rows = o.rows }

-- k is unit a, its right neighbour or its lower one, in rows of c
pub data Near (c a k : ℕ) : Type 0 where
  itself : k ≡ a → Near c a k
  right : k ≡ a + 1 → 0 < k % c → Near c a k
  lower : k ≡ a + c → Near c a k

-- what an accepted edit of unit a does to any map: by the maps that it leaves, the row of each edge of a, every other row as it was, and every bit above
pub record Sets (c a : ℕ) (s t : Held) : Type 0 where
  pub long : length t.rows ≡ length s.rows
  pub rows : (d : Pass) (k : ℕ) → k < length s.rows
      → field_of (first_bit d) 2 (get_or t.rows k 0) ≡ pick (edge_of d c a k) (edge_row t.words t.motion t.refs c d k) (field_of (first_bit d) 2 (get_or s.rows k 0))
  pub above : (p n k : ℕ) → k < length s.rows → field_of (4 + p) n (get_or t.rows k 0) ≡ field_of (4 + p) n (get_or s.rows k 0)
  pub others : (k : ℕ) → (Near c a k → ⊥) → get_or t.rows k 0 ≡ get_or s.rows k 0

pub record Kept (w h : ℕ) : Type 0 where
  -- a map that was filled is right, and a right map is the one that filling makes
  pub fills : (s : Held) → (fill_of w h s).number ≡ 0 → Right w h (record { words = s.words; motion = s.motion; refs = s.refs; rows = (fill_of w h s).rows })
  pub one : (s : Held) → (fill_of w h s).number ≡ 0 → Right w h s → s.rows ≡ (fill_of w h s).rows
  -- whatever edits follow one another
  pub stays : (es : List Edit) (s : Held) → Right w h s → Right w h (run (after w h) es s)
  -- an edit of any map, right or not
  pub sets : (e : Edit) (s : Held) → number_of w h e s ≡ 0 → Sets (w / 4) (edit_place w e) s (after w h e s)
