-- The call `list_marks`: the marks of a root, by its number, of a picture of w by h samples, into a lent list of 85 numbers.
-- Assumes nothing: these are definitions.
use Rattle.std.specs.Prelude.{Bool, List, [], ◌∷◌, ℕ, ◌*◌, ◌/◌, eqb, ltb, length, Ok, Err, Result}
use Rattle.std.proofs.lemmas.List.Edits.{sets}
use Rattle.def.specs.Answers.{after_checks}
use Rattle.def.specs.Picture.{size_ok, root_count}
use Rattle.def.specs.Refusals.{number_of}
use Rattle.def.specs.Answers.{Answer}
use Rattle.def.specs.declared.Refusal.{Refusal}
use Rattle.def.specs.declared.Refusal.TheVariants.{Size, Length, Block}
use Rattle.laws.specs.Call.{unless, all_of}
use Rattle.marks_rules.specs.Marks.{Mark}
use Rattle.marks_rules.specs.Mended.{mend_marks}
use Rattle.split.specs.Picture.{root_bytes, root_x, root_y}
use Rattle.marks.specs.Stored.{numbers}

pub record Input : Type 0 where
  pub w : ℕ
  pub h : ℕ
  pub splits : List ℕ
  pub root : ℕ
  pub out : List ℕ

-- the answer's number, and how many marks
pub record Reading : Type 0 where
  pub number : ℕ
  pub count : ℕ

abbrev pub reading_of : Result ℕ Refusal → Reading
reading_of (Ok n) = record { number = 0; count = n }
reading_of (Err r) = record { number = number_of r; count = 0 }

pub record Outcome : Type 0 where
  pub reading : Reading
  pub out : List ℕ

-- 1,024 bytes a root, and a number for each of at most 85 marks
unfoldable pub lengths_ok : (w h splits out : ℕ) → Bool
lengths_ok w h splits out = all_of (eqb splits (1024 * root_count w h) ∷ eqb out 85 ∷ [])

-- root i's marks, each with the byte that it has to have
abbrev pub root_marks : (w h : ℕ) → List ℕ → ℕ → List Mark
root_marks w h s i = mend_marks (root_bytes s i) (w / 4) (h / 4) 4 (root_x (w / 4) i) (root_y (w / 4) i)

unfoldable pub check : Input → Answer
check i =
    unless (size_ok i.w i.h) (Err Size)
    (unless (lengths_ok i.w i.h (length i.splits) (length i.out)) (Err Length)
    (unless (ltb i.root (root_count i.w i.h)) (Err Block) (Ok tt)))

abbrev pub refused : Input → Refusal → Outcome
refused i r = record { reading = reading_of (Err r); out = i.out }

abbrev pub done : Input → Outcome
done i =
    let l = root_marks i.w i.h i.splits i.root in
    record { reading = reading_of (Ok (length l)); out = sets i.out 0 (numbers l) }

unfoldable pub outcome : Input → Outcome
outcome i = after_checks (refused i) (done i) (check i)
