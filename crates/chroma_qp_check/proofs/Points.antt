-- What the test of a table's points tells.
-- Assumes nothing.
use Prim.Native.Nat.{ℕ, ◌≤◌, ◌<◌}
use mathlib.Core.Path.{◌≡◌}
use mathlib.Core.Bool.{true}
use mathlib.Core.List.{List}
use borrow.Author.Tests.{leb-true}
use lib.IntN.{ℤ, pos}
use lib.ListN.{get_or}
use lib.Signed.{le_z}
use Rattle.laws.proofs.Calls.{all_at}
use Rattle.laws.proofs.Scans.{scan_at}
use Rattle.chroma_qp_check.specs.Check.{points_ok, point_tests}

pub record Countable (count : ℕ) (a : List ℤ) : Type 0 where
  pub some : 1 ≤ count
  pub most : count ≤ 58
  pub not_below : (j : ℕ) → j < count → le_z (pos 0) (get_or a j (pos 0)) ≡ true

pub countable : (count : ℕ) (a : List ℤ) → points_ok count a ≡ true → Countable count a
unfolding points_ok
countable count a e =
    record {
      some = leb-true 1 count (all_at (point_tests count a) 0 e);
      most = leb-true count 58 (all_at (point_tests count a) 1 e);
      not_below = λ j h. scan_at _ count j h (all_at (point_tests count a) 2 e);
    }
