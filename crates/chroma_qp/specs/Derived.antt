-- The call of `derived_chroma_qp_mapping_tables`: its input and its outcome. Its refusals stand in `chroma_qp_check`.
-- Assumes nothing: these are definitions.
use Rattle.std.specs.Prelude.{ℕ, Bool, List, ℤ, length}
use Rattle.laws.specs.Index.{pick}
use Rattle.def.specs.Answers.{after_checks}
use Rattle.def.specs.Refusals.{number_of}
use Rattle.def.specs.Answers.{Answer}
use Rattle.def.specs.declared.Refusal.{Refusal}
use Rattle.chroma_qp_check.specs.Check as checks
use Rattle.chroma_qp_check.specs.Pivots.{Points}
use Rattle.chroma_qp.specs.Mapping.{table_of}

pub record Input : Type 0 where
  pub global_offset : Bool
  pub same_table : Bool
  pub first : Points
  pub second : Points
  pub t0 : List ℤ
  pub t1 : List ℤ

pub record Outcome : Type 0 where
  pub number : ℕ
  pub t0 : List ℤ
  pub t1 : List ℤ

-- what is looked at before the first write
abbrev pub checked : Input → checks.Input
checked i =
    record {
      global_offset = i.global_offset;
      same_table = i.same_table;
      first = i.first;
      second = i.second;
      t0 = length i.t0;
      t1 = length i.t1;
    }

abbrev pub check : Input → Answer
check i = checks.check (checked i)

abbrev pub input_start : Input → ℤ
input_start i = checks.input_start (checked i)

abbrev pub refused : Input → Refusal → Outcome
refused i r = record { number = number_of r; t0 = i.t0; t1 = i.t1 }

-- one-table flag: the second is a copy
abbrev pub done : Input → Outcome
done i =
    let first = table_of (input_start i) i.first in
    record { number = 0; t0 = first; t1 = pick i.same_table first (table_of (input_start i) i.second) }

unfoldable pub outcome : Input → Outcome
outcome i = after_checks (refused i) (done i) (check i)
