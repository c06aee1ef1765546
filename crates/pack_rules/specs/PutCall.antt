-- The calls `put_map` and `write_map`: the split map of a picture of w by h samples goes into a lent buffer, from position `at` on.
-- Assumes nothing: these are definitions.
use Rattle.std.specs.Prelude.{List, ℕ, ◌*◌, ◌/◌, eqb, length, Ok, Err}
use Rattle.def.specs.Answers.{after_checks}
use Rattle.def.specs.Picture.{size_ok, root_count}
use Rattle.def.specs.Refusals.{number_of}
use Rattle.def.specs.Answers.{Answer}
use Rattle.def.specs.declared.Refusal.{Refusal}
use Rattle.def.specs.declared.Refusal.TheVariants.{Size, Length, Bits}
use Rattle.laws.specs.Call.{unless}
use Rattle.marks_rules.specs.Pictures.{picture_digits}
use Rattle.split.specs.Picture.{picture_walk}
use Rattle.pack_rules.specs.Form.{end_of, packed, room_ok}

pub record Input : Type 0 where
  pub w : ℕ
  pub h : ℕ
  pub splits : List ℕ
  pub buf : List ℕ
  pub at : ℕ

-- the answer's number, the position after the map, and the buffer
pub record Outcome : Type 0 where
  pub number : ℕ
  pub at : ℕ
  pub buf : List ℕ

abbrev pub digits : Input → List ℕ
digits i = picture_digits i.splits (i.w / 4) (i.h / 4)

-- 1, 2, then 4 or 5 as the walk meets them, then 16: the room is less than the map's own bytes
unfoldable pub check : Input → Answer
check i =
    unless (size_ok i.w i.h) (Err Size)
    (unless (eqb (length i.splits) (1024 * root_count i.w i.h)) (Err Length)
    (after_checks Err (unless (room_ok (length i.buf) i.at (length (digits i))) (Err Bits) (Ok tt)) (picture_walk i.splits (i.w / 4) (i.h / 4)).answer))

-- the buffer and the position are as they were
abbrev pub refused : Input → Refusal → Outcome
refused i r = record { number = number_of r; at = i.at; buf = i.buf }

abbrev pub done : Input → Outcome
done i = record { number = 0; at = end_of i.at (length (digits i)); buf = packed i.buf i.at (digits i) }

unfoldable pub outcome : Input → Outcome
outcome i = after_checks (refused i) (done i) (check i)
