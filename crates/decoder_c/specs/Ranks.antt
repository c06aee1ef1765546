-- The mode ranks for C: the five bytes of the rank table, copied into a lent slice of five.
-- Assumes nothing: these are definitions.
use Rattle.std.specs.Prelude.{ℕ, List, eqb, length, take, drop, Err}
use Rattle.laws.specs.Call.{unless}
use Rattle.def.specs.Answers.{after_checks}
use Rattle.def.specs.Picture.{size_ok}
use Rattle.def.specs.Refusals.{number_of}
use Rattle.def.specs.declared.Refusal.{Refusal}
use Rattle.def.specs.declared.Refusal.TheVariants.{Size, Length}
use Rattle.def.specs.Answers.{Answer}
use Rattle.mpm.specs.Ranks as lookup

pub record Input : Type 0 where
  pub around : lookup.Input
  pub ranks : List ℕ

pub record Outcome : Type 0 where
  pub number : ℕ
  pub ranks : List ℕ

-- the lookup's own checks, and the length of the slice that is written among its lengths
unfoldable pub check_of : lookup.Input → ℕ → Answer
check_of i ranks =
    unless (size_ok i.w i.h) (Err Size)
    (unless (eqb ranks 5) (Err Length)
    (lookup.check i))

-- the five ranks that the lookup answers as a part of the table
abbrev pub ranks_of : lookup.Input → List ℕ
ranks_of i = take 5 (drop (lookup.row_start i.w i.words i.modes i.x i.y) i.table)

abbrev pub refused : Input → Refusal → Outcome
refused i r = record { number = number_of r; ranks = i.ranks }

abbrev pub done : Input → Outcome
done i = record { number = 0; ranks = ranks_of i.around }

unfoldable pub outcome : Input → Outcome
outcome i = after_checks (refused i) (done i) (check_of i.around (length i.ranks))
