-- The call that sets a unit's intra or luma-coded bit. The map may be any: its bits are set as `edited_map` says.
-- Assumes nothing: these are definitions.
use Rattle.std.specs.Prelude.{ℕ, ◌+◌, ◌*◌, ◌/◌, Bool, List, ℤ, length, get_or, set}
use Rattle.laws.specs.Bits.{with_field}
use Rattle.def.specs.Answers.{after_checks}
use Rattle.def.specs.Refusals.{number_of}
use Rattle.def.specs.Word.{bit}
use Rattle.def.specs.declared.Refusal.{Refusal}
use Rattle.def.specs.Answers.{Answer}
use Rattle.rows_rules.specs.Checks.{check_unit}
use Rattle.rows_rules.specs.Rule.{edited_map}
use Rattle.unit_edits.specs.declared.Flag.{Flag}
use Rattle.unit_edits.specs.declared.Flag.TheVariants.{Intra, Coded}

pub record Input : Type 0 where
  pub w : ℕ
  pub h : ℕ
  pub x : ℕ
  pub y : ℕ
  pub flag : Flag
  pub on : Bool
  pub words : List ℕ
  pub motion : List ℤ
  pub refs : List ℤ
  pub rows : List ℕ

pub record Outcome : Type 0 where
  pub number : ℕ
  pub words : List ℕ
  pub rows : List ℕ

-- the bit's place in a unit word
abbrev pub flag_bit : Flag → ℕ
flag_bit Intra = 15
flag_bit Coded = 24

-- a word with the bit on or off
abbrev pub with_flag : Flag → Bool → ℕ → ℕ
with_flag f on word = with_field (flag_bit f) 1 (bit on) word

abbrev pub check : Input → Answer
check i = check_unit i.w i.h (length i.words) (length i.motion) (length i.refs) (length i.rows) i.x i.y

abbrev pub refused : Input → Refusal → Outcome
refused i r = record { number = number_of r; words = i.words; rows = i.rows }

-- the unit's place in the maps
abbrev pub place : Input → ℕ
place i = i.y * (i.w / 4) + i.x

abbrev pub done : Input → Outcome
done i =
    let words = set i.words (place i) (with_flag i.flag i.on (get_or i.words (place i) 0)) in
    record { number = 0; words = words; rows = edited_map words i.motion i.refs (i.w / 4) (place i) i.rows }

unfoldable pub outcome : Input → Outcome
outcome i = after_checks (refused i) (done i) (check i)
