-- The two calls: what they refuse and in which order, the reading of their answer, and the rule of each.
-- Assumes nothing: these are definitions.
use Rattle.std.specs.Prelude.{ℕ, false, eqb, length, Result, Ok, Err}
use Rattle.laws.specs.Call.{unless}
use Rattle.def.specs.Answers.{after_checks}
use Rattle.def.specs.Blocks.{block_ok}
use Rattle.def.specs.Picture.{size_ok, unit_count}
use Rattle.def.specs.Refusals.{number_of}
use Rattle.def.specs.declared.Refusal.{Refusal}
use Rattle.def.specs.declared.Refusal.TheVariants.{Size, Length, Block}
use Rattle.def.specs.Answers.{Answer}
use Rattle.avail.specs.declared.Neighbours.{Neighbours}
use Rattle.avail.specs.Around.{Input}
use Rattle.avail.specs.Intra.{intra_neighbours}
use Rattle.avail.specs.Inter.{inter_neighbours}

unfoldable pub check_of : (w h words x y side : ℕ) → Answer
check_of w h words x y side =
    unless (size_ok w h) (Err Size)
    (unless (eqb words (unit_count w h)) (Err Length)
    (unless (block_ok w h x y side) (Err Block)
    (Ok tt)))

abbrev pub check : Input → Answer
check i = check_of i.w i.h (length i.words) i.x i.y i.side

-- all eight no
abbrev pub none : Neighbours
none =
    record {
      up = false;
      left = false;
      right = false;
      up_left = false;
      up_right = false;
      low_left = false;
      low_right = false;
      right_up = false;
    }

-- what the paper says of each case of an answer: its number, and the eight answers
pub record Reading : Type 0 where
  pub number : ℕ
  pub neighbours : Neighbours

abbrev pub reading_of : Result Neighbours Refusal → Reading
reading_of (Ok n) = record { number = 0; neighbours = n }
reading_of (Err r) = record { number = number_of r; neighbours = none }

pub record Outcome : Type 0 where
  pub reading : Reading

abbrev pub refused : Refusal → Outcome
refused r = record { reading = reading_of (Err r) }

abbrev pub done : Neighbours → Outcome
done n = record { reading = reading_of (Ok n) }

-- the rule of each call
unfoldable pub intra_outcome : Input → Outcome
intra_outcome i = after_checks refused (done (intra_neighbours i)) (check i)

unfoldable pub inter_outcome : Input → Outcome
inter_outcome i = after_checks refused (done (inter_neighbours i)) (check i)
