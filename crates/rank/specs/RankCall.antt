-- The call `visiting_rank`: the rank of the unit of column x and row y in its root.
-- Assumes nothing: these are definitions.
use Rattle.std.specs.Prelude.{ℕ, [], ◌∷◌, ltb, Ok, Err, Result}
use Rattle.def.specs.declared.Refusal.{Refusal}
use Rattle.def.specs.Answers.{after_checks}
use Rattle.def.specs.Refusals.{number_of}
use Rattle.def.specs.Answers.{Answer}
use Rattle.def.specs.declared.Refusal.TheVariants.{Block}
use Rattle.laws.specs.Call.{unless, all_of}
use Rattle.rank.specs.Ranks.{rank}

pub record Input : Type 0 where
  pub x : ℕ
  pub y : ℕ

-- the answer's number, and the rank
pub record Reading : Type 0 where
  pub number : ℕ
  pub rank : ℕ

abbrev pub reading_of : Result ℕ Refusal → Reading
reading_of (Ok n) = record { number = 0; rank = n }
reading_of (Err r) = record { number = number_of r; rank = 0 }

pub record Outcome : Type 0 where
  pub reading : Reading

-- a root has 16 columns and 16 rows of units
unfoldable pub check : Input → Answer
check i = unless (all_of (ltb i.x 16 ∷ ltb i.y 16 ∷ [])) (Err Block) (Ok tt)

abbrev pub after : Result ℕ Refusal → Outcome
after r = record { reading = reading_of r }

unfoldable pub outcome : Input → Outcome
outcome i = after_checks (λ r. after (Err r)) (after (Ok (rank i.x i.y))) (check i)
