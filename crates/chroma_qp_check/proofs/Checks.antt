-- The ladder of refusals: what is answered at each rung, and what is known where nothing is refused.
--     at_length, at_first_points, at_second_points, at_first_pivots, at_second_pivots, past_all
--     Passed, passed
--     Long, long
-- Assumes nothing.
use Rattle.std.specs.Prelude.{Ok, Err}
use mathlib.Core.Path.{◌≡◌, refl}
use mathlib.Core.Bool.{Bool, true, false, ◌||◌}
use Prim.Native.Nat.{ℕ}
use native.Mathlib.Omega.{arith}
use borrow.Author.Tests.{eqb-true}
use lib.ListN.{length}
use Rattle.laws.specs.Call.{unless}
use Rattle.laws.proofs.Calls.{all_at}
use Rattle.def.specs.declared.Refusal.{Refusal}
use Rattle.def.specs.declared.Refusal.TheVariants.{Length, Points, Pivot}
use Rattle.def.specs.Answers.{Answer}
use Rattle.chroma_qp_check.specs.Check.{Input, input_start, length_tests, lengths_ok, input_lengths_ok, points_ok, pivots_ok, check}

-- every test of the ladder holds
pub record Passed (i : Input) : Type 0 where
  pub lengths : input_lengths_ok i ≡ true
  pub first_points : points_ok i.first.count i.first.a ≡ true
  pub second_points : (i.same_table || points_ok i.second.count i.second.a) ≡ true
  pub first_pivots : pivots_ok (input_start i) i.first ≡ true
  pub second_pivots : (i.same_table || pivots_ok (input_start i) i.second) ≡ true

module _ (i : Input) where
  pub at_length : input_lengths_ok i ≡ false → Err Length ≡ check i
  unfolding check
  at_length e = rw e

  pub at_first_points : input_lengths_ok i ≡ true → points_ok i.first.count i.first.a ≡ false → Err Points ≡ check i
  unfolding check
  at_first_points a e = rw (a, e)

  pub at_second_points : input_lengths_ok i ≡ true → points_ok i.first.count i.first.a ≡ true → (i.same_table || points_ok i.second.count i.second.a) ≡ false → Err Points ≡ check i
  unfolding check
  at_second_points a b e = rw (a, b, e)

  pub at_first_pivots : input_lengths_ok i ≡ true → points_ok i.first.count i.first.a ≡ true
      → (i.same_table || points_ok i.second.count i.second.a) ≡ true → pivots_ok (input_start i) i.first ≡ false → Err Pivot ≡ check i
  unfolding check
  at_first_pivots a b c e = rw (a, b, c, e)

  pub at_second_pivots : input_lengths_ok i ≡ true → points_ok i.first.count i.first.a ≡ true
      → (i.same_table || points_ok i.second.count i.second.a) ≡ true → pivots_ok (input_start i) i.first ≡ true
      → (i.same_table || pivots_ok (input_start i) i.second) ≡ false → Err Pivot ≡ check i
  unfolding check
  at_second_pivots a b c d e = rw (a, b, c, d, e)

  pub past_all : Passed i → (Ok tt) ≡ check i
  unfolding check
  past_all p = rw (p.lengths, p.first_points, p.second_points, p.first_pivots, p.second_pivots)

-- a rung that does not refuse
holds : (t : Bool) (r : Refusal) (k : Answer) → unless t (Err r) k ≡ Ok tt → t ≡ true
holds true r k e = refl
holds false r k e = let z : ◌≡◌ {A = ℕ} 0 1 = cc in absurd (omega arith)

rest : (t : Bool) (r : Refusal) (k : Answer) → unless t (Err r) k ≡ Ok tt → k ≡ Ok tt
rest true r k e = e
rest false r k e = let z : ◌≡◌ {A = ℕ} 0 1 = cc in absurd (omega arith)

pub passed : (i : Input) → check i ≡ Ok tt → Passed i
unfolding check
passed i e =
    let a = rest (input_lengths_ok i) Length _ e in
    let b = rest (points_ok i.first.count i.first.a) Points _ a in
    let c = rest (i.same_table || points_ok i.second.count i.second.a) Points _ b in
    let d = rest (pivots_ok (input_start i) i.first) Pivot _ c in
    record {
      lengths = holds (input_lengths_ok i) Length _ e;
      first_points = holds (points_ok i.first.count i.first.a) Points _ a;
      second_points = holds (i.same_table || points_ok i.second.count i.second.a) Points _ b;
      first_pivots = holds (pivots_ok (input_start i) i.first) Pivot _ c;
      second_pivots = holds (i.same_table || pivots_ok (input_start i) i.second) Pivot _ d;
    }

-- what the test of the lengths tells
pub record Long (i : Input) : Type 0 where
  pub a0 : length i.first.a ≡ 58
  pub b0 : length i.first.b ≡ 58
  pub a1 : length i.second.a ≡ 58
  pub b1 : length i.second.b ≡ 58
  pub t0 : i.t0 ≡ 70
  pub t1 : i.t1 ≡ 70

pub long : (i : Input) → input_lengths_ok i ≡ true → Long i
unfolding lengths_ok
long i e =
    let tests = length_tests (length i.first.a) (length i.first.b) (length i.second.a) (length i.second.b) i.t0 i.t1 in
    record {
      a0 = eqb-true _ 58 (all_at tests 0 e);
      b0 = eqb-true _ 58 (all_at tests 1 e);
      a1 = eqb-true _ 58 (all_at tests 2 e);
      b1 = eqb-true _ 58 (all_at tests 3 e);
      t0 = eqb-true _ 70 (all_at tests 4 e);
      t1 = eqb-true _ 70 (all_at tests 5 e);
    }
