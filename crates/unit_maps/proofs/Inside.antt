-- A block of units and maps: what the test tells, and what it leaves.
--     inside, lies_inside    the test passes exactly where the block lies in the maps
--     told_none, told_all    what `tell_units` leaves, where the test fails and where the block lies in the maps
--     one_told    a row of one unit is the block of one by one
-- Assumes nothing.
use Prim.Native.Nat.{ℕ, ◌+◌, ◌*◌, ◌≤◌, ◌<◌}
use mathlib.Core.Path.{◌≡◌, refl, sym, ap}
use mathlib.Core.Bool.{true, false}
use mathlib.Core.List.{List}
use native.Mathlib.Nat.{add-zero}
use native.Mathlib.Omega.{arith}
use borrow.Author.Tests.{leb-true, le-leb}
use lib.ListN.{length}
use Rattle.laws.specs.Plane.{with_row, with_block}
use Rattle.laws.proofs.Calls.{all_at}
use Rattle.laws.proofs.Whole.{rows_none, rows_more, rows_all_lem}
use Rattle.unit_maps.specs.Maps.{maps_of, lies_tests, lies, Inside, with_blocks, told_maps}

module _ (columns x y n : ℕ) (words modes keep : List ℕ) where
  pub inside : lies columns x y n (length words) (length modes) (length keep) ≡ true → Inside columns x y n words modes keep
  unfolding lies
  inside e =
      let tests = lies_tests columns x y n (length words) (length modes) (length keep) in
      record {
        wide = leb-true columns 1024 (all_at tests 0 e);
        high = leb-true y 1024 (all_at tests 1 e);
        right = leb-true (x + n) columns (all_at tests 2 e);
        in_words = leb-true ((y + n) * columns) (length words) (all_at tests 3 e);
        in_modes = leb-true ((y + n) * columns) (length modes) (all_at tests 4 e);
        in_keep = leb-true ((y + n) * columns) (length keep) (all_at tests 5 e);
      }

  pub lies_inside : Inside columns x y n words modes keep → lies columns x y n (length words) (length modes) (length keep) ≡ true
  unfolding lies
  lies_inside i = simp (le-leb _ _ i.wide, le-leb _ _ i.high, le-leb _ _ i.right, le-leb _ _ i.in_words, le-leb _ _ i.in_modes, le-leb _ _ i.in_keep)

  module _ (word mode mark : ℕ) where
    pub told_none : lies columns x y n (length words) (length modes) (length keep) ≡ false → maps_of words modes keep ≡ told_maps columns x y n word mode mark (maps_of words modes keep)
    unfolding told_maps
    told_none e = rw e

    pub told_all : Inside columns x y n words modes keep
        → told_maps columns x y n word mode mark (maps_of words modes keep) ≡ with_blocks columns x y n word mode mark (maps_of words modes keep)
    unfolding told_maps
    told_all i = rw (lies_inside i)

pub one_told : (w x y n v : ℕ) (l m : List ℕ) → n ≡ 1 → x + n ≤ w → 0 < w → m ≡ with_row 0 (y * w + x) 1 (λ (j : ℕ). v) l → m ≡ with_block 0 w x y n n (λ (r c : ℕ). v) l
one_told w x y n v l m e fits some q =
    let all : ℕ → ℕ → ℕ = λ r c. v in
    let here : y * w + x ≡ (y + 0) * w + x = ap (λ (k : ℕ). k * w + x) (sym (add-zero y)) in
    let row = rows_more 0 w x y 1 all l l m 0 (y * w + x) (λ (j : ℕ). v) (omega (arith, fits, e)) some here (λ j p. refl) q (rows_none 0 w x y 1 all l) in
    rw e (rows_all_lem 0 w x y 1 all l m (0 + 1) 1 refl row)
