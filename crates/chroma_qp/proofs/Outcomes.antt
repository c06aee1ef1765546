-- The outcome of a call by what its checks found, and what they tell of the points that are used.
--     Ready, lengths, first_checked, second_checked
--     by_refusal, by_copy, by_both
-- Assumes nothing.
use Rattle.std.specs.Prelude.{Ok, Err}
use mathlib.Core.Path.{◌≡◌, refl}
use mathlib.Core.Bool.{Bool, true, false, ◌||◌}
use mathlib.Core.List.{List}
use Prim.Native.Nat.{ℕ, ◌≤◌}
use lib.IntN.{ℤ}
use Rattle.laws.specs.Call.{Gives}
use Rattle.def.specs.Refusals.{number_of}
use Rattle.def.specs.declared.Refusal.{Refusal}
use Rattle.def.specs.Answers.{Answer}
use Rattle.def.proofs.Answers.{on_refusal, on_done}
use Rattle.chroma_qp_check.specs.Pivots.{entry_qp}
use Rattle.chroma_qp_check.proofs.Checks.{Passed, passed, Long, long}
use Rattle.chroma_qp.specs.Derived.{Input, checked, check, input_start, refused, done, outcome}
use Rattle.chroma_qp.specs.Held.{Checked}
use Rattle.chroma_qp.specs.Mapping.{table_of}

unused : (same b : Bool) → same ≡ false → (same || b) ≡ true → b ≡ true
unused true b e f = cc
unused false b e f = f

-- nothing is refused, and s is the start, held
pub record Ready (i : Input) (s : ℕ) : Type 0 where
  pub small : s ≤ 28
  pub start : entry_qp s ≡ input_start i
  pub told : check i ≡ Ok tt

module _ (i : Input) (s : ℕ) (r : Ready i s) where
  all : Passed (checked i)
  all = passed (checked i) r.told

  pub lengths : Long (checked i)
  lengths = long (checked i) all.lengths

  pub first_checked : Checked s i.first
  first_checked =
      record {
        counted = record { start = r.small; a_long = lengths.a0; b_long = lengths.b0; points = all.first_points };
        pivots = rw r.start all.first_pivots;
      }

  pub second_checked : i.same_table ≡ false → Checked s i.second
  second_checked e =
      record {
        counted = record { start = r.small; a_long = lengths.a1; b_long = lengths.b1; points = unused i.same_table _ e all.second_points };
        pivots = rw r.start (unused i.same_table _ e all.second_pivots);
      }

  module _ (t u : List ℤ) (first : t ≡ table_of (entry_qp s) i.first) where
    pub by_copy : i.same_table ≡ true → u ≡ t → Gives outcome i (record { number = 0; t0 = t; t1 = u })
    unfolding outcome
    by_copy e f = on_done (refused i) (done i) (check i) (check i) _ refl r.told (rw (e, f, first, r.start))

    pub by_both : i.same_table ≡ false → u ≡ table_of (entry_qp s) i.second → Gives outcome i (record { number = 0; t0 = t; t1 = u })
    unfolding outcome
    by_both e f = on_done (refused i) (done i) (check i) (check i) _ refl r.told (rw (e, f, first, r.start))

pub by_refusal : (i : Input) (a : Answer) (r : Refusal) → a ≡ check i → a ≡ Err r → Gives outcome i (record { number = number_of r; t0 = i.t0; t1 = i.t1 })
unfolding outcome
by_refusal i a r e q = on_refusal (refused i) (done i) a (check i) r e q
