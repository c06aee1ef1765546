-- The call `import_frame`: the header of a stream, and its first frame. Its refusals: the header's 17 with its place, 1, 2, the frame line's 17 with its
-- place, 18, 7.
-- Assumes nothing: these are definitions.
use Rattle.std.specs.Prelude.{ℕ, List, Result, Ok, Err}
use Rattle.y4m_rules.specs.declared.Misread.{Misread}
use Rattle.y4m_header.specs.ReadCall.{Reading, reading_of, read_of}
use Rattle.y4m_header.specs.declared.Header.{Header}
use Rattle.y4m_frame.specs.ReadCall as frame

pub record Input : Type 0 where
  pub input : List ℕ
  pub y : List ℕ
  pub u : List ℕ
  pub v : List ℕ

pub record Outcome : Type 0 where
  pub reading : Reading
  pub y : List ℕ
  pub u : List ℕ
  pub v : List ℕ

-- the frame that stands after a header
abbrev pub frame_at : Input → (at w h : ℕ) → frame.Input
frame_at i at w h = record { input = i.input; at = at; w = w; h = h; y = i.y; u = i.u; v = i.v }

-- the answer, with the planes that reading the frame left
abbrev pub with : Result Header Misread → frame.Outcome → Outcome
with r o = record { reading = reading_of r; y = o.y; u = o.u; v = o.v }

-- by the frame, after this header
abbrev pub after_frame : Input → Header → Result ℕ Misread → Outcome
after_frame i p (Err m) = with (Err m) (frame.after (frame_at i p.next p.w p.h) (Err m))
after_frame i p (Ok n) = with (Ok (record p { next = n })) (frame.after (frame_at i p.next p.w p.h) (Ok n))

-- by the header; a refusal leaves the planes as they were
abbrev pub after_header : Input → Result Header Misread → Outcome
after_header i (Err m) = record { reading = reading_of (Err m); y = i.y; u = i.u; v = i.v }
after_header i (Ok p) = after_frame i p (frame.check (frame_at i p.next p.w p.h))

unfoldable pub outcome : Input → Outcome
outcome i = after_header i (read_of i.input)
