-- The call `listing`: what is printed for a sheet, into a lent buffer of 81,920 bytes. `input` is what was read, whatever its length.
-- Assumes nothing: these are definitions.
use Rattle.std.specs.Prelude.{ℕ, List, ◌++◌, eqb, length, drop, Ok, Err, Result}
use Rattle.laws.specs.Call.{unless}
use Rattle.def.specs.Answers.{after_checks}
use Rattle.def.specs.Refusals.{number_of}
use Rattle.def.specs.Answers.{Answer}
use Rattle.def.specs.declared.Refusal.{Refusal}
use Rattle.def.specs.declared.Refusal.TheVariants.{Length}
use Rattle.sheet.specs.Text.{text_of}

pub record Input : Type 0 where
  pub input : List ℕ
  pub out : List ℕ

-- the answer's number, and the text's length
pub record Reading : Type 0 where
  pub number : ℕ
  pub length : ℕ

abbrev pub reading_of : Result ℕ Refusal → Reading
reading_of (Ok n) = record { number = 0; length = n }
reading_of (Err r) = record { number = number_of r; length = 0 }

pub record Outcome : Type 0 where
  pub reading : Reading
  pub out : List ℕ

unfoldable pub check : Input → Answer
check i = unless (eqb (length i.out) 81920) (Err Length) (Ok tt)

abbrev pub refused : Input → Refusal → Outcome
refused i r = record { reading = reading_of (Err r); out = i.out }

-- the text comes first in the buffer, and what follows it is untouched
abbrev pub done : Input → Outcome
done i =
    let text = text_of i.input in
    record { reading = reading_of (Ok (length text)); out = text ++ drop (length text) i.out }

unfoldable pub outcome : Input → Outcome
outcome i = after_checks (refused i) (done i) (check i)
