-- All rows of a run, called in turn from its start: they are the whole converted, cropped planes, Y, U, V, and after them comes 22. The proof is `whole`, in
-- proofs/.
-- Assumes nothing: these are definitions.
use Rattle.std.specs.Prelude.{true, List, [], ◌++◌, ◌≡◌, ℕ, zero, suc, ◌+◌, ◌<◌, length, take}
use Rattle.decoder.specs.Face.{size_ok, Format, samples_ok}
use Rattle.ward_check.specs.Checks.{window_ok}
use Rattle.ward_check.specs.Sizes.{planes_of, plane_length, rows_of}
use Rattle.ward_check.specs.declared.Run.{Run}
use Rattle.ward_check.specs.declared.Window.{Window}
use Rattle.ward.specs.RowCall.{Input, Outcome, plane_of, shown_of, outcome}
use Rattle.ward.specs.Turns.{first_turn}
use Rattle.ward.specs.declared.Turn.{Turn}

-- a picture and a window, as they are lent to every call of a run
pub record Lent : Type 0 where
  pub format : Format
  pub w : ℕ
  pub h : ℕ
  pub y : List ℕ
  pub u : List ℕ
  pub v : List ℕ
  pub window : Window

-- nothing of it is refused: its size, its planes' lengths, the window, and no sample is over 1023
pub record Fine (l : Lent) : Type 0 where
  pub size : size_ok l.w l.h ≡ true
  pub y_long : length l.y ≡ plane_length l.format 0 l.w l.h
  pub u_long : length l.u ≡ plane_length l.format 1 l.w l.h
  pub v_long : length l.v ≡ plane_length l.format 2 l.w l.h
  pub window : window_ok l.window l.w l.h ≡ true
  pub y_small : samples_ok l.y ≡ true
  pub u_small : samples_ok l.u ≡ true
  pub v_small : samples_ok l.v ≡ true

-- ---- the calls

-- a call that asks for a row of a plane at a turn, with a buffer
abbrev pub asking : Lent → Turn → (plane row : ℕ) → (out : List ℕ) → Input
asking l t plane row out =
    record {
      turn = t;
      plane = plane;
      row = row;
      format = l.format;
      w = l.w;
      h = l.h;
      y = l.y;
      u = l.u;
      v = l.v;
      window = l.window;
      out = out;
    }

-- a call that asks for the turn's own row
abbrev pub in_turn : Lent → Turn → List ℕ → Input
in_turn l t out = asking l t t.plane t.row out

-- the samples that a call wrote
abbrev pub samples_of : Outcome → List ℕ
samples_of o = take o.reading.written o.out

-- after some calls in turn: the turn that the last one handed back, and the samples of all rows, one after the other
pub record Played : Type 0 where
  pub turn : Turn
  pub got : List ℕ

-- n calls in turn from the start of a run, call k with the buffer `outs k`
unfoldable pub played : Lent → Run → (ℕ → List ℕ) → ℕ → Played
played l run outs zero = record { turn = first_turn run; got = [] }
played l run outs (suc n) =
    let b = played l run outs n in
    let o = outcome (in_turn l b.turn (outs n)) in
    record { turn = o.reading.turn; got = b.got ++ samples_of o }

-- ---- what is to come out

-- what a run shows of the window in plane k
abbrev pub shown_plane : Lent → Run → ℕ → List ℕ
shown_plane l run k = shown_of (record { run = run; plane = k; row = 0 }) l.w l.window (plane_of k l.y l.u l.v)

-- the first n planes, one after the other, and how many rows they have
unfoldable pub shown_planes : Lent → Run → ℕ → List ℕ
shown_planes l run zero = []
shown_planes l run (suc n) = shown_planes l run n ++ shown_plane l run n

unfoldable pub rows_up_to : Lent → Run → ℕ → ℕ
rows_up_to l run zero = 0
rows_up_to l run (suc n) = rows_up_to l run n + rows_of run l.window n

abbrev pub row_count : Lent → Run → ℕ
row_count l run = rows_up_to l run (planes_of l.format)

-- each row of the run is given; they are the planes, Y, then U, then V; and then every row is out of turn. The buffers have w bytes and hold anything
pub record Whole (l : Lent) (run : Run) (outs : ℕ → List ℕ) : Type 0 where
  pub given : (k : ℕ) → k < row_count l run → (outcome (in_turn l (played l run outs k).turn (outs k))).reading.number ≡ 0
  pub planes : (played l run outs (row_count l run)).got ≡ shown_planes l run (planes_of l.format)
  pub over : (plane row : ℕ) (out : List ℕ) → length out ≡ l.w → (outcome (asking l (played l run outs (row_count l run)).turn plane row out)).reading.number ≡ 22
