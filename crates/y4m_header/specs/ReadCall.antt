-- The call `read_header`: what the header of a stream says, or why it is refused: 17 with its place, then 1.
-- Assumes nothing: these are definitions.
use Rattle.std.specs.Prelude.{ℕ, List, Result, Ok, Err}
use Rattle.laws.specs.Call.{unless}
use Rattle.def.specs.Picture.{size_ok}
use Rattle.def.specs.Refusals.{number_of}
use Rattle.def.specs.declared.Refusal.TheVariants.{Size, Stream}
use Rattle.y4m_rules.specs.Misreads.{misread}
use Rattle.y4m_rules.specs.Header.{Header as Line, malformed, said, header_in}
use Rattle.y4m_rules.specs.declared.Misread.{Misread}
use Rattle.y4m_header.specs.Values.{header_of}
use Rattle.y4m_header.specs.declared.Header.{Header}

pub record Input : Type 0 where
  pub input : List ℕ

-- the answer's number; the place that 17 names; the sides; F and A; and the place after the header
pub record Reading : Type 0 where
  pub number : ℕ
  pub at : ℕ
  pub w : ℕ
  pub h : ℕ
  pub f : ℕ
  pub g : ℕ
  pub a : ℕ
  pub b : ℕ
  pub next : ℕ

abbrev pub reading_of : Result Header Misread → Reading
reading_of (Ok p) = record { number = 0; at = 0; w = p.w; h = p.h; f = p.f; g = p.g; a = p.a; b = p.b; next = p.next }
reading_of (Err m) = record { number = number_of m.refusal; at = m.at; w = 0; h = 0; f = 0; g = 0; a = 0; b = 0; next = 0 }

pub record Outcome : Type 0 where
  pub reading : Reading

abbrev pub after : Result Header Misread → Outcome
after r = record { reading = reading_of r }

-- a header whose size passes
abbrev pub sized : Header → Result Header Misread
sized p = unless (size_ok p.w p.h) (Err (misread Size 0)) (Ok p)

abbrev pub read_by : Line → Result Header Misread
read_by (malformed at) = Err (misread Stream at)
read_by (said p next) = sized (header_of p next)

abbrev pub read_of : List ℕ → Result Header Misread
read_of s = read_by (header_in s)

unfoldable pub outcome : Input → Outcome
outcome i = after (read_of i.input)
