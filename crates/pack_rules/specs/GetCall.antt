-- The calls `get_map` and `read_map`: the split map of a picture of w by h samples is read from a lent buffer, from position `at` on.
-- Assumes nothing: these are definitions.
use Rattle.std.specs.Prelude.{List, ℕ, ◌*◌, ◌/◌, eqb, length, Ok, Err}
use Rattle.def.specs.Answers.{after_checks}
use Rattle.def.specs.Picture.{size_ok, root_count}
use Rattle.def.specs.Refusals.{number_of}
use Rattle.def.specs.Answers.{Answer}
use Rattle.def.specs.declared.Refusal.{Refusal}
use Rattle.def.specs.declared.Refusal.TheVariants.{Size, Length, Bits}
use Rattle.laws.specs.Call.{unless}
use Rattle.marks_rules.specs.Descent.{Descent}
use Rattle.marks_rules.specs.Pictures.{upto, map_of}
use Rattle.split.specs.Picture.{roots}
use Rattle.pack_rules.specs.Form.{end_of, digits_from, fill_ok}

pub record Input : Type 0 where
  pub w : ℕ
  pub h : ℕ
  pub src : List ℕ
  pub at : ℕ
  pub map : List ℕ

-- the answer's number, the position after the map, and the map
pub record Outcome : Type 0 where
  pub number : ℕ
  pub at : ℕ
  pub map : List ℕ

-- what the picture comes to by the bits
abbrev pub descent : Input → Descent
descent i = upto (i.w / 4) (i.h / 4) (digits_from i.src i.at) (roots (i.w / 4) (i.h / 4))

-- how many digits it has: one for each block of 8 or more
abbrev pub count : Input → ℕ
count i = length (descent i).marks

-- 1, 2, then 5, or 16 where the bits run out, as the walk meets them, then 16: a fill bit that is not 0
unfoldable pub check : Input → Answer
check i =
    unless (size_ok i.w i.h) (Err Size)
    (unless (eqb (length i.map) (1024 * root_count i.w i.h)) (Err Length)
    (after_checks Err (unless (fill_ok i.src i.at (count i)) (Err Bits) (Ok tt)) (descent i).walk.answer))

-- the map and the position are as they were
abbrev pub refused : Input → Refusal → Outcome
refused i r = record { number = number_of r; at = i.at; map = i.map }

abbrev pub done : Input → Outcome
done i = record { number = 0; at = end_of i.at (count i); map = map_of (i.w / 4) (i.h / 4) (digits_from i.src i.at) }

unfoldable pub outcome : Input → Outcome
outcome i = after_checks (refused i) (done i) (check i)
