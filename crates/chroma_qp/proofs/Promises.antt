-- What is promised of every call, read off its rule.
--     refusal_keeps     a number that is not 0 leaves both tables as they were
--     copied            with the one_table flag the second table is the first
--     one_table         and the second's count and contents do not matter
--     points_first      10 in either table that is used comes before 11 in either
--     tables_fit        every entry of either table lies within -12..91
-- Assumes nothing.
use Rattle.std.specs.Prelude.{Ok, Err}
use mathlib.Core.Path.{◌≡◌, refl, sym}
use Prim.Native.Nat.{ℕ, ◌<◌}
use mathlib.Core.Bool.{Bool, true, false, ◌&&◌, ◌||◌}
use native.Mathlib.Omega.{arith}
use lib.IntN.{pos}
use lib.ListN.{length, get_or}
use Rattle.def.specs.Answers.{after_checks}
use Rattle.def.proofs.Answers.{number_some}
use Rattle.def.specs.Answers.{Answer}
use Rattle.chroma_qp_check.specs.Check as checks
use Rattle.chroma_qp_check.specs.Check.{input_lengths_ok, points_ok}
use Rattle.chroma_qp_check.specs.Pivots.{Points}
use Rattle.chroma_qp_check.proofs.Checks.{at_first_points, at_second_points, Passed, passed}
use Rattle.chroma_qp.specs.Derived.{Input, Outcome, checked, check, input_start, refused, done, outcome}
use Rattle.chroma_qp.proofs.Fits.{Entry, values_fit}

pub record Kept (i : Input) (o : Outcome) : Type 0 where
  pub t0 : o.t0 ≡ i.t0
  pub t1 : o.t1 ≡ i.t1

kept : (i : Input) (k : Answer) → ((after_checks (refused i) (done i) k).number ≡ 0 → ⊥) → Kept i (after_checks (refused i) (done i) k)
kept i (Ok _) n = absurd (n refl)
kept i (Err r) n = record { t0 = refl; t1 = refl }

pub refusal_keeps : (i : Input) → ((outcome i).number ≡ 0 → ⊥) → Kept i (outcome i)
unfolding outcome
refusal_keeps i n = kept i (check i) n

-- ---- one table

none_refused : (i : Input) (k : Answer) → (after_checks (refused i) (done i) k).number ≡ 0 → k ≡ Ok tt
none_refused i (Ok _) e = refl
none_refused i (Err r) e = absurd (omega (arith, number_some r))

pub copied : (i : Input) → i.same_table ≡ true → (outcome i).number ≡ 0 → (outcome i).t1 ≡ (outcome i).t0
unfolding outcome
copied i e n = rw (none_refused i (check i) n, e)

-- the input with other points for the second table
abbrev pub with_second : Points → Input → Input
with_second q i = record { global_offset = i.global_offset; same_table = i.same_table; first = i.first; second = q; t0 = i.t0; t1 = i.t1 }

same_answer : (i : Input) (q : Points) → i.same_table ≡ true → length q.a ≡ length i.second.a → length q.b ≡ length i.second.b → check (with_second q i) ≡ check i
unfolding checks.check
same_answer i q e f g = rw (e, f, g)

pub one_table : (i : Input) (q : Points) → i.same_table ≡ true → length q.a ≡ length i.second.a → length q.b ≡ length i.second.b → outcome (with_second q i) ≡ outcome i
unfolding outcome
one_table i q e f g = rw (same_answer i q e f g, e)

-- ---- the order of 10 and 11

pub points_first : (i : Input) → input_lengths_ok (checked i) ≡ true
    → (points_ok i.first.count i.first.a && (i.same_table || points_ok i.second.count i.second.a)) ≡ false → (outcome i).number ≡ 10
unfolding outcome
points_first i long e = go (points_ok i.first.count i.first.a) refl where
  go : (t : Bool) → points_ok i.first.count i.first.a ≡ t → (after_checks (refused i) (done i) (check i)).number ≡ 10
  go true f = rw (sym (at_second_points (checked i) long f (rw f at e)))
  go false f = rw (sym (at_first_points (checked i) long f))

-- ---- the tables' entries

-- the second table's entries, by the one_table flag
second : (i : Input) (same : Bool) → i.same_table ≡ same → Passed (checked i) → (k : ℕ) → k < 70 → Entry (get_or (done i).t1 k (pos 0))
second i true e p k h = rw e (values_fit (input_start i) i.first p.first_points p.first_pivots k h)
second i false e p k h =
    rw e (values_fit (input_start i) i.second (rw e at p.second_points) (rw e at p.second_pivots) k h)

pub tables_fit : (i : Input) → (outcome i).number ≡ 0 → (k : ℕ) → k < 70 → Entry (get_or (outcome i).t0 k (pos 0)) × Entry (get_or (outcome i).t1 k (pos 0))
unfolding outcome
tables_fit i e k h =
    let told : check i ≡ (Ok tt) = none_refused i (check i) e in
    let p = passed (checked i) told in
    rw told (values_fit (input_start i) i.first p.first_points p.first_pivots k h, second i i.same_table refl p k h)
