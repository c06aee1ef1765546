-- The call `read`: what the five lines of a sheet say, or the first line that is malformed.
-- Assumes nothing: these are definitions.
use Rattle.std.specs.Prelude.{ℕ, ◌+◌, Bool, false, List, Result, Ok, Err, eqb, length}
use Rattle.laws.specs.Call.{unless}
use Rattle.def.specs.Refusals.{number_of}
use Rattle.def.specs.declared.Refusal.TheVariants.{Sheet as BadSheet}
use Rattle.sheet_lines.specs.Lines.{start_of, line, first_bad, width_of, height_of, limit_of, old_of}
use Rattle.sheet_lines.specs.Words.{splits_key}
use Rattle.sheet_lines.specs.declared.Malformed.{Malformed}
use Rattle.sheet_lines.specs.declared.Sheet.{Sheet}

pub record Input : Type 0 where
  pub input : List ℕ

-- the answer's number; the line that 12 names; the two sides and the limit; whether the sheet is old; and where the split digits start and end
pub record Reading : Type 0 where
  pub number : ℕ
  pub line : ℕ
  pub w : ℕ
  pub h : ℕ
  pub limit : ℕ
  pub old : Bool
  pub from : ℕ
  pub to : ℕ

abbrev pub reading_of : Result Sheet Malformed → Reading
reading_of (Ok p) = record { number = 0; line = 0; w = p.w; h = p.h; limit = p.limit; old = p.old; from = p.from; to = p.to }
reading_of (Err m) = record { number = number_of BadSheet; line = m.0; w = 0; h = 0; limit = 0; old = false; from = 0; to = 0 }

pub record Outcome : Type 0 where
  pub reading : Reading

abbrev pub after : Result Sheet Malformed → Outcome
after r = record { reading = reading_of r }

-- line n is malformed
abbrev pub malformed : ℕ → Result Sheet Malformed
malformed n = Err (record { 0 = n })

-- what the five lines say, the digits by their places
abbrev pub whole_sheet : List ℕ → Sheet
whole_sheet s =
    record {
      w = width_of s;
      h = height_of s;
      limit = limit_of s;
      old = old_of s;
      from = start_of s 4 + length splits_key;
      to = start_of s 4 + length (line s 4);
    }

unfoldable pub read_of : List ℕ → Result Sheet Malformed
read_of s = unless (eqb (first_bad s) 0) (malformed (first_bad s)) (Ok (whole_sheet s))

unfoldable pub outcome : Input → Outcome
outcome i = after (read_of i.input)
