-- The part of the rank table that is answered, and its number: they agree.
--     no_part, a_part    the two kinds of part as the code makes them
--     empty_where_refused, five_where_done    the part is empty where the number is not 0, and has five ranks where it is 0
-- Assumes nothing.
use Rattle.std.specs.Prelude.{Ok, Err}
use Prim.Native.Nat.{ℕ, ◌+◌, ◌-◌, ◌≤◌}
use mathlib.Core.Path.{◌≡◌, refl}
use mathlib.Core.List.{List, []}
use native.Mathlib.Nat.{add-zero, add_comm, add-sub_cancel_left}
use native.Mathlib.Omega.{arith}
use lib.ListN.{length, take, drop, length-take, length-drop}
use Rattle.def.specs.Answers.{answer_number, after_checks}
use Rattle.def.specs.Answers.{Answer}
use Rattle.def.proofs.Answers.{number_some}
use Rattle.mpm.specs.Ranks.{Input, left_mode, up_mode, row_start, check, number_outcome, PartInput, part_of, part_outcome}
use Rattle.mpm.proofs.Modes.{Accepted, accepted, left_ok, up_ok, index_small}

pub no_part : (i : PartInput) → record { memory = i.memory; start = i.start; bytes = [] } ≡ part_of i 0 0
no_part i = rw (add-zero i.start)

pub a_part : (i : PartInput) (k e : ℕ) → e ≡ k → record { memory = i.memory; start = e + i.start; bytes = take (e + 5 - e) (drop e i.input.table) } ≡ part_of i k 5
a_part i k e h = rw (h, add_comm k i.start, add-sub_cancel_left k 5)

-- ---- the part and its number

-- past the checks, the row lies within the table
module _ (i : Input) (ok : Accepted i) where
  row_within : row_start i.w i.words i.modes i.x i.y + 5 ≤ length i.table
  unfolding row_start
  row_within =
      let l = left_mode i.w i.words i.modes i.x i.y in
      let u = up_mode i.w i.words i.modes i.x i.y in
      omega (arith, ok.table_long, index_small l (left_ok _ _ _ _ _ ok.modes_ok_lem), index_small u (up_ok _ _ _ _ _ ok.modes_ok_lem))

take_long : (k n : ℕ) (t : List ℕ) → k + n ≤ length t → length (take n (drop k t)) ≡ n
take_long k n t h = simp (length-take, length-drop) (omega arith)

module _ (i : PartInput) where
  abbrev row : ℕ
  row = let j = i.input in row_start j.w j.words j.modes j.x j.y

  empty_after : (a : Answer) → (answer_number a ≡ 0 → ⊥) → (after_checks (λ r. part_of i 0 0) (part_of i row 5) a).bytes ≡ []
  empty_after (Ok _) n = absurd (n refl)
  empty_after (Err r) n = refl

  five_after : (a : Answer) → check i.input ≡ a → answer_number a ≡ 0 → length (after_checks (λ r. part_of i 0 0) (part_of i row 5) a).bytes ≡ 5
  five_after (Ok _) e n = take_long row 5 i.input.table (row_within i.input (accepted i.input e))
  five_after (Err r) e n = absurd (omega (arith, number_some r))

  pub empty_where_refused : ((number_outcome i.input).number ≡ 0 → ⊥) → (part_outcome i).bytes ≡ []
  unfolding number_outcome part_outcome
  empty_where_refused n = empty_after (check i.input) n

  pub five_where_done : (number_outcome i.input).number ≡ 0 → length (part_outcome i).bytes ≡ 5
  unfolding number_outcome part_outcome
  five_where_done n = five_after (check i.input) refl n
