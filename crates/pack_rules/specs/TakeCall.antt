-- The call `take_map`: the split map of a picture of w by h samples by its digits alone, the bits of a lent slice from one place up to another.
-- Assumes nothing: these are definitions.
use Rattle.std.specs.Prelude.{Bool, List, [], ◌∷◌, ℕ, ◌+◌, ◌-◌, ◌*◌, ◌/◌, eqb, leb, length, Err}
use Rattle.bits.specs.Bits.{bits_from}
use Rattle.def.specs.Answers.{after_checks}
use Rattle.def.specs.Picture.{size_ok, root_count}
use Rattle.def.specs.Refusals.{number_of}
use Rattle.def.specs.Answers.{Answer}
use Rattle.def.specs.declared.Refusal.{Refusal}
use Rattle.def.specs.declared.Refusal.TheVariants.{Size, Length, Bits}
use Rattle.laws.specs.Call.{unless, all_of}
use Rattle.marks_rules.specs.Descent.{Descent}
use Rattle.marks_rules.specs.Pictures.{upto, map_of}
use Rattle.split.specs.Picture.{roots}

pub record Input : Type 0 where
  pub w : ℕ
  pub h : ℕ
  pub src : List ℕ
  pub from : ℕ
  pub to : ℕ
  pub map : List ℕ

-- the answer's number, the place after the digits that were taken, and the map
pub record Outcome : Type 0 where
  pub number : ℕ
  pub at : ℕ
  pub map : List ℕ

abbrev pub digits : Input → List ℕ
digits i = bits_from i.src i.from (i.to - i.from)

-- what the picture comes to by the digits
abbrev pub descent : Input → Descent
descent i = upto (i.w / 4) (i.h / 4) (digits i) (roots (i.w / 4) (i.h / 4))

-- the places are in order; no slice has bits past 2 ^ 62
unfoldable pub places_ok : (from to : ℕ) → Bool
places_ok from to = all_of (leb from to ∷ leb to 4611686018427387904 ∷ [])

-- 1, 2, 16, then 5, or 16 where the digits run out, as the walk meets them
unfoldable pub check : Input → Answer
check i =
    unless (size_ok i.w i.h) (Err Size)
    (unless (eqb (length i.map) (1024 * root_count i.w i.h)) (Err Length)
    (unless (places_ok i.from i.to) (Err Bits) (descent i).walk.answer))

abbrev pub refused : Input → Refusal → Outcome
refused i r = record { number = number_of r; at = i.from; map = i.map }

-- a digit for each block of 8 or more
abbrev pub done : Input → Outcome
done i = record { number = 0; at = i.from + length (descent i).marks; map = map_of (i.w / 4) (i.h / 4) (digits i) }

unfoldable pub outcome : Input → Outcome
outcome i = after_checks (refused i) (done i) (check i)
