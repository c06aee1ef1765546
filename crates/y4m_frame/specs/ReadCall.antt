-- The call `read_frame`: the frame at a place of a stream, into the planes of a picture of w by h. Its refusals: 1, 2, 17 with its place, 18, 7.
-- Assumes nothing: these are definitions.
use Rattle.std.specs.Prelude.{ℕ, Bool, List, [], ◌∷◌, leb, eqb, length, Result, Ok, Err}
use Rattle.laws.specs.Call.{unless, all_of}
use Rattle.def.specs.Picture.{size_ok, luma_length, chroma_length}
use Rattle.def.specs.Refusals.{number_of}
use Rattle.def.specs.declared.Refusal.TheVariants.{Size, Length, Sample, Stream, Short}
use Rattle.y4m_rules.specs.Frames.{line_ok, line_place, frame_end, y_at, u_at, v_at, planes_ok}
use Rattle.y4m_rules.specs.Misreads.{misread}
use Rattle.y4m_rules.specs.declared.Misread.{Misread}

pub record Input : Type 0 where
  pub input : List ℕ
  pub at : ℕ
  pub w : ℕ
  pub h : ℕ
  pub y : List ℕ
  pub u : List ℕ
  pub v : List ℕ

-- the answer's number; the place that 17 names; and the place after the frame
pub record Reading : Type 0 where
  pub number : ℕ
  pub at : ℕ
  pub next : ℕ

abbrev pub reading_of : Result ℕ Misread → Reading
reading_of (Ok next) = record { number = 0; at = 0; next = next }
reading_of (Err m) = record { number = number_of m.refusal; at = m.at; next = 0 }

pub record Outcome : Type 0 where
  pub reading : Reading
  pub y : List ℕ
  pub u : List ℕ
  pub v : List ℕ

-- the frame at a place, of planes with these lengths
unfoldable pub frame_of : List ℕ → (at luma chroma : ℕ) → Result ℕ Misread
frame_of s at luma chroma =
    unless (line_ok s at) (Err (misread Stream (line_place s at)))
    (unless (leb (frame_end at luma chroma) (length s)) (Err (misread Short 0))
    (unless (planes_ok s at luma chroma) (Err (misread Sample 0))
    (Ok (frame_end at luma chroma))))

-- the lent planes have their lengths
unfoldable pub lengths_ok : (w h y u v : ℕ) → Bool
lengths_ok w h y u v = all_of (eqb y (luma_length w h) ∷ eqb u (chroma_length w h) ∷ eqb v (chroma_length w h) ∷ [])

unfoldable pub check_of : List ℕ → (at w h y u v : ℕ) → Result ℕ Misread
check_of s at w h y u v =
    unless (size_ok w h) (Err (misread Size 0))
    (unless (lengths_ok w h y u v) (Err (misread Length 0))
    (frame_of s at (luma_length w h) (chroma_length w h)))

abbrev pub check : Input → Result ℕ Misread
check i = check_of i.input i.at i.w i.h (length i.y) (length i.u) (length i.v)

-- a refusal leaves the planes as they were
abbrev pub after : Input → Result ℕ Misread → Outcome
after i (Err m) = record { reading = reading_of (Err m); y = i.y; u = i.u; v = i.v }
after i (Ok next) = record {
  reading = reading_of (Ok next);
  y = y_at i.input i.at (luma_length i.w i.h);
  u = u_at i.input i.at (luma_length i.w i.h) (chroma_length i.w i.h);
  v = v_at i.input i.at (luma_length i.w i.h) (chroma_length i.w i.h);
}

unfoldable pub outcome : Input → Outcome
outcome i = after i (check i)
