-- The call `take_marks`: the marks of a root, by its number, from digits: the bits of a lent slice from `from` up to `to`, into a lent list of 85 numbers.
-- Assumes nothing: these are definitions.
use Rattle.std.specs.Prelude.{List, ℕ, ◌-◌, ◌/◌, eqb, ltb, length, Ok, Err}
use Rattle.std.proofs.lemmas.List.Edits.{sets}
use Rattle.bits.specs.Bits.{bits_from}
use Rattle.def.specs.Answers.{after_checks}
use Rattle.def.specs.Picture.{size_ok, root_count}
use Rattle.def.specs.Answers.{Answer}
use Rattle.def.specs.declared.Refusal.{Refusal}
use Rattle.def.specs.declared.Refusal.TheVariants.{Size, Length, Block}
use Rattle.laws.specs.Call.{unless}
use Rattle.marks_rules.specs.Descent.{Descent, root_descent}
use Rattle.marks.specs.ListCall.{Outcome, reading_of}
use Rattle.marks.specs.Stored.{numbers}

pub record Input : Type 0 where
  pub w : ℕ
  pub h : ℕ
  pub src : List ℕ
  pub from : ℕ
  pub to : ℕ
  pub root : ℕ
  pub out : List ℕ

-- what the root comes to by the digits
abbrev pub descent : Input → Descent
descent i = root_descent (i.w / 4) (i.h / 4) i.root (bits_from i.src i.from (i.to - i.from))

unfoldable pub check : Input → Answer
check i =
    unless (size_ok i.w i.h) (Err Size)
    (unless (eqb (length i.out) 85) (Err Length)
    (unless (ltb i.root (root_count i.w i.h)) (Err Block)
    (descent i).walk.answer))

abbrev pub refused : Input → Refusal → Outcome
refused i r = record { reading = reading_of (Err r); out = i.out }

abbrev pub done : Input → Outcome
done i =
    let l = (descent i).marks in
    record { reading = reading_of (Ok (length l)); out = sets i.out 0 (numbers l) }

unfoldable pub outcome : Input → Outcome
outcome i = after_checks (refused i) (done i) (check i)
