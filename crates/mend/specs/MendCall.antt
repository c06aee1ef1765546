-- The call `mend`: the split map of a picture of w by h samples, mended into a second buffer, with a list of the changes.
-- Assumes nothing: these are definitions.
use Rattle.std.specs.Prelude.{Bool, true, List, [], ◌∷◌, ◌≡◌, ℕ, ◌*◌, ◌/◌, eqb, length, Ok, Err, Result}
use Rattle.std.proofs.lemmas.List.Edits.{sets}
use Rattle.def.specs.Answers.{after_checks}
use Rattle.def.specs.Picture.{size_ok, root_count}
use Rattle.def.specs.Refusals.{number_of}
use Rattle.def.specs.Answers.{Answer}
use Rattle.def.specs.declared.Refusal.{Refusal}
use Rattle.def.specs.declared.Refusal.TheVariants.{Size, Length}
use Rattle.laws.specs.Call.{unless, all_of}
use Rattle.laws.specs.Orders.{each}
use Rattle.mend.specs.Changes.{mend_map, all_changes, change_numbers}

pub record Input : Type 0 where
  pub w : ℕ
  pub h : ℕ
  pub splits : List ℕ
  pub out : List ℕ
  pub list : List ℕ

-- the answer's number, and how many changes
pub record Reading : Type 0 where
  pub number : ℕ
  pub count : ℕ

abbrev pub reading_of : Result ℕ Refusal → Reading
reading_of (Ok n) = record { number = 0; count = n }
reading_of (Err r) = record { number = number_of r; count = 0 }

pub record Outcome : Type 0 where
  pub reading : Reading
  pub out : List ℕ
  pub list : List ℕ

-- 1,024 bytes a root, twice, and five numbers for each of at most 85 changes a root
unfoldable pub lengths_ok : (w h splits out list : ℕ) → Bool
lengths_ok w h splits out list = all_of (eqb splits (1024 * root_count w h) ∷ eqb out (1024 * root_count w h) ∷ eqb list (425 * root_count w h) ∷ [])

-- 1 and 2 only
unfoldable pub check : Input → Answer
check i =
    unless (size_ok i.w i.h) (Err Size)
    (unless (lengths_ok i.w i.h (length i.splits) (length i.out) (length i.list)) (Err Length) (Ok tt))

abbrev pub refused : Input → Refusal → Outcome
refused i r = record { reading = reading_of (Err r); out = i.out; list = i.list }

-- the list's rest is untouched
abbrev pub done : Input → Outcome
done i =
    let l = all_changes i.splits (i.w / 4) (i.h / 4) in
    record { reading = reading_of (Ok (length l)); out = mend_map i.splits (i.w / 4) (i.h / 4); list = sets i.list 0 (each change_numbers l) }

unfoldable pub outcome : Input → Outcome
outcome i = after_checks (refused i) (done i) (check i)

-- ---- what is known once the call's tests have passed

pub record Mapped (w h splits out list : ℕ) : Type 0 where
  pub size : size_ok w h ≡ true
  pub bytes : splits ≡ 1024 * root_count w h
  pub room : out ≡ 1024 * root_count w h
  pub rows : list ≡ 425 * root_count w h
