-- The ward screen in numbers: a run by its flag, and what a row's call hands back of its turn, the plane and the row.
-- Assumes nothing: these are definitions.
use Rattle.std.specs.Prelude.{ℕ, Bool, true, false, List}
use Rattle.ward.specs.RowCall as call
use Rattle.ward_check.specs.declared.Run.{Run}
use Rattle.ward_check.specs.declared.Run.TheVariants.{Full, Preview}
use Rattle.decoder_c.specs.declared.screen.Seen.{Seen}

abbrev pub run_of : Bool → Run
run_of true = Preview
run_of false = Full

pub record Numbers : Type 0 where
  pub number : ℕ
  pub plane : ℕ
  pub row : ℕ
  pub written : ℕ

abbrev pub numbers_of : call.Reading → Numbers
numbers_of r = record { number = r.number; plane = r.turn.plane; row = r.turn.row; written = r.written }

abbrev pub seen_of : Seen → Numbers
seen_of n = record { number = n.number; plane = n.plane; row = n.row; written = n.written }

pub record Outcome : Type 0 where
  pub seen : Numbers
  pub out : List ℕ

-- the call's own outcome
abbrev pub row_outcome : call.Input → Outcome
row_outcome i = record { seen = numbers_of (call.outcome i).reading; out = (call.outcome i).out }
