-- The call `row`: the row of a plane whose turn it is. Its refusals: 1, 2, 21 for the window, 22 for a row out of turn, 7 for the samples that the row is
-- made of.
-- Assumes nothing: these are definitions.
use Rattle.std.specs.Prelude.{ℕ, ◌+◌, ◌-◌, ◌*◌, Bool, List, eqb, length, get_or, Result, Ok, Err}
use Rattle.laws.specs.Call.{unless}
use Rattle.laws.specs.Index.{pick}
use Rattle.laws.specs.Plane.{with_row}
use Rattle.decoder.specs.Face.{after_checks, number_of, Answer, Format, Refusal}
use Rattle.decoder.specs.Face.refusals.{Sample}
use Rattle.ward_check.specs.Checks as checks
use Rattle.ward_check.specs.Sizes.{in_plane, columns_of}
use Rattle.ward_check.specs.declared.Window.{Window}
use Rattle.ward_rows.specs.Rows.{made_ok}
use Rattle.ward.specs.Screen.{shown}
use Rattle.ward.specs.Turns.{next_turn}
use Rattle.ward.specs.declared.Rowed.{Rowed}
use Rattle.ward.specs.declared.Turn.{Turn}

pub record Input : Type 0 where
  pub turn : Turn
  pub plane : ℕ
  pub row : ℕ
  pub format : Format
  pub w : ℕ
  pub h : ℕ
  pub y : List ℕ
  pub u : List ℕ
  pub v : List ℕ
  pub window : Window
  pub out : List ℕ

-- the answer's number, the turn that is handed back, and how many samples were written
pub record Reading : Type 0 where
  pub number : ℕ
  pub turn : Turn
  pub written : ℕ

abbrev pub reading_by : Turn → Result ℕ Refusal → Reading
reading_by t (Ok n) = record { number = 0; turn = t; written = n }
reading_by t (Err r) = record { number = number_of r; turn = t; written = 0 }

abbrev pub reading_of : Rowed → Reading
reading_of o = reading_by o.next o.written

-- a refusal leaves the turn as it was
abbrev pub refusal : Turn → Refusal → Rowed
refusal t r = record { written = Err r; next = t }

pub record Outcome : Type 0 where
  pub reading : Reading
  pub out : List ℕ

-- ---- the checks

-- of a row that is asked for at a turn
abbrev pub turn_ok : Turn → (plane row : ℕ) → Format → Window → Bool
turn_ok t plane row f c = checks.turn_ok t.run t.plane t.row plane row f c

-- the ladder down to 22, and what comes after it
abbrev pub asked : Turn → (plane row : ℕ) → Format → (w h y u v : ℕ) → Window → (out : ℕ) → Answer → Answer
asked t plane row f w h y u v c out k = checks.asked t.run t.plane t.row plane row f w h y u v c out k

-- ---- the row of a plane

-- plane k of three
abbrev pub plane_of : ℕ → (y u v : List ℕ) → List ℕ
plane_of k y u v = pick (eqb k 0) y (pick (eqb k 1) u v)

-- the samples that the turn's row is made of
abbrev pub row_ok : Turn → (w : ℕ) → Window → List ℕ → Bool
row_ok t w c p =
    made_ok t.run (in_plane t.plane w) (in_plane t.plane c.left) (in_plane t.plane c.top) (in_plane t.plane (c.right - c.left)) t.row p

-- what the turn's run shows of the window in its plane
abbrev pub shown_of : Turn → (w : ℕ) → Window → List ℕ → List ℕ
shown_of t w c p =
    shown t.run (in_plane t.plane w) (in_plane t.plane c.left) (in_plane t.plane c.top) (in_plane t.plane (c.right - c.left)) (in_plane t.plane (c.bottom - c.top)) p

-- its row, first in the buffer; the rest is left as it was
abbrev pub row_into : Turn → (w : ℕ) → Window → List ℕ → List ℕ → List ℕ
row_into t w c p out =
    with_row 0 0 (columns_of t.run c t.plane) (λ (j : ℕ). get_or (shown_of t w c p) (t.row * columns_of t.run c t.plane + j) 0) out

abbrev pub refused : Turn → List ℕ → Refusal → Outcome
refused t out r = record { reading = reading_of (refusal t r); out = out }

abbrev pub done : Turn → (w : ℕ) → Window → List ℕ → List ℕ → Outcome
done t w c p out = record { reading = reading_of (record { written = Ok (columns_of t.run c t.plane); next = next_turn c t }); out = row_into t w c p out }

-- what is done of plane p where nothing but its samples can be refused
abbrev pub given : Turn → (w : ℕ) → Window → List ℕ → List ℕ → Outcome
given t w c p out = after_checks (refused t out) (done t w c p out) (unless (row_ok t w c p) (Err Sample) (Ok tt))

-- ---- the call

abbrev pub lent_plane : Input → List ℕ
lent_plane i = plane_of i.turn.plane i.y i.u i.v

abbrev pub check : Input → Answer
check i =
    asked i.turn i.plane i.row i.format i.w i.h (length i.y) (length i.u) (length i.v) i.window (length i.out)
    (unless (row_ok i.turn i.w i.window (lent_plane i)) (Err Sample) (Ok tt))

unfoldable pub outcome : Input → Outcome
outcome i = after_checks (refused i.turn i.out) (done i.turn i.w i.window (lent_plane i) i.out) (check i)
