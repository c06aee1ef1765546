-- The call `check`: whether the walk of a picture of w by h samples is refused, and why.
-- Assumes nothing: these are definitions.
use Rattle.std.specs.Prelude.{ℕ, ◌*◌, ◌/◌, List, eqb, length, Err}
use Rattle.def.specs.Answers.{after_checks}
use Rattle.def.specs.Picture.{size_ok, root_count}
use Rattle.def.specs.Refusals.{number_of}
use Rattle.def.specs.Answers.{Answer}
use Rattle.def.specs.declared.Refusal.TheVariants.{Size, Length}
use Rattle.laws.specs.Call.{unless}
use Rattle.split.specs.Picture.{picture_walk}

pub record Input : Type 0 where
  pub w : ℕ
  pub h : ℕ
  pub splits : List ℕ

pub record Outcome : Type 0 where
  pub number : ℕ

unfoldable pub check : Input → Answer
check i =
    unless (size_ok i.w i.h) (Err Size)
    (unless (eqb (length i.splits) (1024 * root_count i.w i.h)) (Err Length)
    (picture_walk i.splits (i.w / 4) (i.h / 4)).answer)

abbrev pub numbered : ℕ → Outcome
numbered n = record { number = n }

unfoldable pub outcome : Input → Outcome
outcome i = after_checks (λ r. numbered (number_of r)) (numbered 0) (check i)
