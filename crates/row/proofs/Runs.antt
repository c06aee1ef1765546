-- Runs of units: what the tests of a run tell.
--     fits_test    n from k on are below a number
--     run_there, run_in    the test passes exactly where the maps hold the run
--     unit_of_lem    each unit of a run is one of the maps
--     first_all    a loop that stores from the front has put its first n
--     put_none, put_all    what `rows_at` leaves
--     rows_long, rows_at    and what is read from it
--     no_room, none_at_q, none_at_p, all_there    the answer of `rows_at`, by what its tests found
-- Assumes nothing.
use Prim.Native.Nat.{ℕ, ◌+◌, ◌-◌, ◌*◌, ◌/◌, ◌≤◌, ◌<◌}
use mathlib.Core.Path.{◌≡◌, sym, ap, ◌∙◌}
use mathlib.Core.Bool.{Bool, true, false}
use mathlib.Core.List.{List, [], ◌∷◌}
use native.Mathlib.Decide.{dec_lt}
use native.Mathlib.Omega.{arith}
use borrow.Author.Tests.{leb-true, le-leb, lt-leb}
use lib.Dec.{leb}
use lib.IntN.{ℤ}
use lib.ListN.{length, get_or}
use Rattle.laws.specs.Index.{pick}
use Rattle.laws.proofs.Calls.{all_at, all_fails}
use Rattle.laws.proofs.Fill.{Upto}
use Rattle.laws.specs.Plane.{with_row}
use Rattle.laws.proofs.Planes.{rowed_all, length_row, get_d_row, within_yes}
use Rattle.df_rules.specs.Strength.{row_by}
use Rattle.row.specs.Between.{There}
use Rattle.row.specs.Runs.{run_in_maps, runs_in, RunThere, rows_put}

pub fits_test : (u k n : ℕ) → n ≤ u → leb k (u - n) ≡ leb (k + n) u
fits_test u k n h = go (dec_lt u (k + n)) where
  go : Dec (u < k + n) → leb k (u - n) ≡ leb (k + n) u
  go (yes p) = lt-leb k (u - n) (omega arith) ∙ sym (lt-leb (k + n) u p)
  go (no p) = le-leb k (u - n) (omega arith) ∙ sym (le-leb (k + n) u (omega arith))

module _ (words : List ℕ) (motion refs : List ℤ) where
  pub run_there : (k n : ℕ) → run_in_maps (length words) (length motion) (length refs) k n ≡ true → RunThere words motion refs k n
  unfolding run_in_maps
  run_there k n e =
      let tests = leb (k + n) (length words) ∷ leb (k + n) (length motion / 4) ∷ leb (k + n) (length refs / 2) ∷ [] in
      let a = leb-true (k + n) (length words) (all_at tests 0 e) in
      let b = leb-true (k + n) (length motion / 4) (all_at tests 1 e) in
      let c = leb-true (k + n) (length refs / 2) (all_at tests 2 e) in
      record { word = a; mv = omega arith; refi = omega arith }

  pub run_in : (k n : ℕ) → RunThere words motion refs k n → run_in_maps (length words) (length motion) (length refs) k n ≡ true
  unfolding run_in_maps
  run_in k n u =
      let b : k + n ≤ length motion / 4 = omega (arith, u.mv) in
      let c : k + n ≤ length refs / 2 = omega (arith, u.refi) in
      rw (le-leb (k + n) (length words) u.word, le-leb (k + n) (length motion / 4) b, le-leb (k + n) (length refs / 2) c)

  pub unit_of_lem : (k n j : ℕ) → RunThere words motion refs k n → j < n → There words motion refs (k + j)
  unit_of_lem k n j u l = record { word = omega (arith, u.word); mv = omega (arith, u.mv); refi = omega (arith, u.refi) }

module _ (words motion refs rows q p n : ℕ) where
  pub no_room : rows < n → false ≡ runs_in words motion refs rows q p n
  unfolding runs_in
  no_room h = sym (all_fails (leb n rows ∷ run_in_maps words motion refs q n ∷ run_in_maps words motion refs p n ∷ []) 0 (lt-leb n rows h))

  pub none_at_q : run_in_maps words motion refs q n ≡ false → false ≡ runs_in words motion refs rows q p n
  unfolding runs_in
  none_at_q e = sym (all_fails (leb n rows ∷ run_in_maps words motion refs q n ∷ run_in_maps words motion refs p n ∷ []) 1 e)

  pub none_at_p : run_in_maps words motion refs p n ≡ false → false ≡ runs_in words motion refs rows q p n
  unfolding runs_in
  none_at_p e = sym (all_fails (leb n rows ∷ run_in_maps words motion refs q n ∷ run_in_maps words motion refs p n ∷ []) 2 e)

  pub all_there : n ≤ rows → run_in_maps words motion refs q n ≡ true → run_in_maps words motion refs p n ≡ true → true ≡ runs_in words motion refs rows q p n
  unfolding runs_in
  all_there h e f = rw (le-leb n rows h, e, f)

-- a loop that has stored its first n
pub first_all : (f : ℕ → ℕ) (n j : ℕ) (l₀ l : List ℕ) → Upto 0 f l₀ l j → n ≡ j → l ≡ with_row 0 0 n f l₀
first_all f n j l₀ l u e =
    rowed_all 0 0 n f l₀ l j (sym e)
    (record { long = u.long; done = λ i h. ap (λ (k : ℕ). get_or l k 0) (front i) ∙ u.below i h; low = λ k h. absurd (none k h); high = λ k h. u.above k (omega arith) }) where
      none : (k : ℕ) → k < 0 → ⊥
      none k h = omega arith

      front : (i : ℕ) → 0 + i ≡ i
      front i = omega arith

module _ (words : List ℕ) (motion refs : List ℤ) (q p n : ℕ) (rows : List ℕ) where
  abbrev Tests : Bool
  Tests = runs_in (length words) (length motion) (length refs) (length rows) q p n

  pub put_none : false ≡ Tests → rows ≡ rows_put words motion refs q p n rows
  unfolding rows_put
  put_none e = λ i. pick (e i) (with_row 0 0 n (λ (j : ℕ). row_by words motion refs (q + j) (p + j)) rows) rows

  pub put_all : true ≡ Tests → with_row 0 0 n (λ (j : ℕ). row_by words motion refs (q + j) (p + j)) rows ≡ rows_put words motion refs q p n rows
  unfolding rows_put
  put_all e = λ i. pick (e i) (with_row 0 0 n (λ (j : ℕ). row_by words motion refs (q + j) (p + j)) rows) rows

  -- where all are there the first n are the rows
  pub rows_long : (l : List ℕ) → true ≡ Tests → l ≡ rows_put words motion refs q p n rows → length l ≡ length rows
  rows_long l e f = ap length (f ∙ sym (put_all e)) ∙ length_row 0 0 n (λ (j : ℕ). row_by words motion refs (q + j) (p + j)) rows

  pub rows_at : (l : List ℕ) → true ≡ Tests → l ≡ rows_put words motion refs q p n rows → n ≤ length rows → (j : ℕ) → j < n → get_or l j 0 ≡ row_by words motion refs (q + j) (p + j)
  rows_at l e f r j h =
      let d : j - 0 ≡ j = omega arith in
      ap (λ (m : List ℕ). get_or m j 0) (f ∙ sym (put_all e))
      ∙ get_d_row 0 0 n (λ (i : ℕ). row_by words motion refs (q + i) (p + i)) rows j (omega arith) ∙ rw (within_yes 0 n j (omega arith) (omega arith), d)
