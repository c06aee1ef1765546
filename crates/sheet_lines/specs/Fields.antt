-- What reading one line comes to in the code's answers.
-- Assumes nothing: these are definitions.
use Rattle.std.specs.Prelude.{ℕ, Bool, List, Option, Some, None}
use Rattle.laws.specs.Call.{all_of}
use Rattle.laws.specs.Index.{pick}
use Rattle.sheet_lines.specs.Lines.{line_from, next_line, digit_tests, value_from, says_of, line_ok}
use Rattle.sheet_lines.specs.declared.Kind.{Kind}

-- a text of one digit or more, up to `most`: its number, if it has the form
abbrev pub number_by : ℕ → List ℕ → Option ℕ
number_by most l = pick (all_of (digit_tests most l)) (Some (value_from 0 l)) None

-- a line's bytes: what they say, if they have the form
abbrev pub value_by : (List ℕ → Bool) → (List ℕ → ℕ) → List ℕ → Option ℕ
value_by form says l = pick (form l) (Some (says l)) None

-- the line that starts at a place: what it says and the place after it, if it is what it has to be
unfoldable pub field_of : Kind → List ℕ → ℕ → Option (ℕ × ℕ)
field_of kind s at = pick {A = Option (ℕ × ℕ)} (line_ok kind s at) (Some (says_of kind (line_from s at), next_line s at)) None
