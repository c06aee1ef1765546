-- What a call of `ipred_b` does: its input, its outcome and the rule between them.
-- Assumes nothing: these are definitions.
use Rattle.std.specs.Prelude.{ℕ, ◌+◌, ◌*◌, ◌≤◌, ◌≡◌, Bool, List, [], ◌∷◌, leb, eqb, length, Ok, Err}
use Rattle.laws.specs.Call.{unless, all_of}
use Rattle.def.specs.Answers.{after_checks}
use Rattle.def.specs.Blocks.{component_side_ok}
use Rattle.def.specs.Refusals.{number_of}
use Rattle.def.specs.declared.Refusal.{Refusal}
use Rattle.def.specs.declared.Refusal.TheVariants.{Block, Length, Mode, Sample}
use Rattle.def.specs.Answers.{Answer}
use Rattle.samples.specs.Samples.{samples_ok}
use Rattle.ipred.specs.Modes.{predicted, block_of}

pub record Input : Type 0 where
  pub mode : ℕ
  pub side : ℕ
  pub run : List ℕ
  pub block : List ℕ

pub record Outcome : Type 0 where
  pub number : ℕ
  pub block : List ℕ

-- the lengths that the side fixes, of the run and the block
unfoldable pub lengths_ok : (side run block : ℕ) → Bool
lengths_ok side run block = all_of (eqb run (4 * side + 1) ∷ eqb block (side * side) ∷ [])

abbrev pub mode_ok : ℕ → Bool
mode_ok mode = leb mode 4

-- 9, and then 7
abbrev pub data_check : Input → Answer
data_check i =
    unless (mode_ok i.mode) (Err Mode)
    (unless (samples_ok i.run) (Err Sample)
    (Ok tt))

abbrev pub check : Input → Answer
check i =
    unless (component_side_ok i.side) (Err Block)
    (unless (lengths_ok i.side (length i.run) (length i.block)) (Err Length)
    (data_check i))

abbrev pub refused : Input → Refusal → Outcome
refused i r = record { number = number_of r; block = i.block }

abbrev pub done : Input → Outcome
done i = record { number = 0; block = block_of i.side (predicted i.mode i.side i.run) }

unfoldable pub outcome : Input → Outcome
outcome i = after_checks (refused i) (done i) (check i)

-- what is left of the rule where the side and the lengths are right
unfoldable pub chosen : Input → Outcome
chosen i = after_checks (refused i) (done i) (data_check i)

-- what the functions inside ask: a side that passed, with the lengths that it fixes
pub record Lent (side : ℕ) (run block : List ℕ) : Type 0 where
  pub least : 2 ≤ side
  pub most : side ≤ 64
  pub run_long : length run ≡ 4 * side + 1
  pub block_long : length block ≡ side * side
