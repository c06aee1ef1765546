-- The call that fills a map of edge rows.
-- Assumes nothing: these are definitions.
use Rattle.std.specs.Prelude.{ℕ, ◌/◌, List, ℤ, length}
use Rattle.def.specs.Answers.{after_checks}
use Rattle.def.specs.Picture.{unit_count}
use Rattle.def.specs.Refusals.{number_of}
use Rattle.def.specs.declared.Refusal.{Refusal}
use Rattle.def.specs.Answers.{Answer}
use Rattle.rows_rules.specs.Checks.{check_maps}
use Rattle.rows_rules.specs.Rule.{rule_map}

pub record Input : Type 0 where
  pub w : ℕ
  pub h : ℕ
  pub words : List ℕ
  pub motion : List ℤ
  pub refs : List ℤ
  pub rows : List ℕ

pub record Outcome : Type 0 where
  pub number : ℕ
  pub rows : List ℕ

abbrev pub check : Input → Answer
check i = check_maps i.w i.h (length i.words) (length i.motion) (length i.refs) (length i.rows)

abbrev pub refused : Input → Refusal → Outcome
refused i r = record { number = number_of r; rows = i.rows }

abbrev pub done : Input → Outcome
done i = record { number = 0; rows = rule_map i.words i.motion i.refs (i.w / 4) (unit_count i.w i.h) }

unfoldable pub outcome : Input → Outcome
outcome i = after_checks (refused i) (done i) (check i)
