-- The modes by their rows: a loop over the rows of a whole block, and what row i of each mode is in the run.
--     row_in_lem    row i lies in the block
--     next_row_done, all_rows    the loop's step and its end
--     ul_left, ul_up    row i of UL: i samples up the left arm, then the corner and the upper arm
--     ur_at     row i of UR
-- Assumes nothing.
use Prim.Native.Nat.{ℕ, zero, suc, ◌+◌, ◌-◌, ◌*◌, ◌/◌, ◌≤◌, ◌<◌}
use mathlib.Core.Path.{◌≡◌, refl, ap, ◌∙◌}
use mathlib.Core.List.{List}
use native.Mathlib.Nat.{le_of_eq}
use native.Mathlib.Omega.{arith}
use borrow.Author.Tests.{lt-ltb, le-ltb, eq-eqb, ne_eqb}
use lib.ListN.{get_or}
use Rattle.laws.specs.Plane.{with_row}
use Rattle.laws.proofs.Flat.{row_below}
use Rattle.laws.proofs.Whole.{row_join, Rows, rows_more, rows_all_lem, whole_block}
use Rattle.ipred.specs.Modes.{up_left, up_right, block_of}
use Rattle.ipred.specs.Predict.{Lent}

pub row_in_lem : {side : ℕ} {run block : List ℕ} (i : ℕ) → Lent side run block → i < side → i * side + side ≤ side * side
row_in_lem {side} i h p = row_below i side side (side * side) p (le_of_eq refl)

-- the rows of the whole block
abbrev pub Filled : (side : ℕ) (f : ℕ → ℕ → ℕ) (block₀ block : List ℕ) (i : ℕ) → Type 0
Filled side f block₀ block i = Rows 0 side 0 0 side f block₀ block i

pub next_row_done : (side : ℕ) (f : ℕ → ℕ → ℕ) (block₀ l m : List ℕ) (i : ℕ) (g : ℕ → ℕ) → 2 ≤ side → ((j : ℕ) → j < side → g j ≡ f i j)
    → m ≡ with_row 0 (i * side) side g l → Filled side f block₀ l i → Filled side f block₀ m (i + 1)
next_row_done side f block₀ l m i g some same e u =
    rows_more 0 side 0 0 side f block₀ l m i (i * side) g (omega arith) (omega arith) (omega arith) same e u

pub all_rows : {side : ℕ} {run block₀ : List ℕ} (f : ℕ → ℕ → ℕ) (l : List ℕ) (i : ℕ) → Lent side run block₀ → i ≡ side → Filled side f block₀ l i → l ≡ block_of side f
all_rows {side} {run} {block₀} f l i h e u =
    rows_all_lem 0 side 0 0 side f block₀ l i side e u ∙ whole_block 0 side side f block₀ (omega arith) h.block_long

module _ (side : ℕ) (run : List ℕ) (i : ℕ) where
  ul_left : (j : ℕ) → j < i → up_left side run i j ≡ get_or run (i - j - 1) 0
  unfolding up_left
  ul_left j p = rw (lt-ltb j i p)

  -- the corner lies before the upper arm
  ul_up : (n j : ℕ) → j < n → up_left side run i (i + j) ≡ get_or run (2 * side + j) 0
  unfolding up_left
  ul_up n zero p = rw (le-ltb (i + 0) i (omega arith), eq-eqb (i + 0) i (omega arith)) (ap (λ (k : ℕ). get_or run k 0) (omega arith))
  ul_up n (suc j) p = rw (le-ltb (i + suc j) i (omega arith), ne_eqb (i + suc j) i (λ e. omega arith)) (ap (λ (k : ℕ). get_or run k 0) (omega arith))

  -- the two parts of row i of UL, from a, one written over the other
  pub ul_row : (a : ℕ) (l m n : List ℕ) → i < side → m ≡ with_row 0 a i (λ (j : ℕ). get_or run (i - j - 1) 0) l
      → n ≡ with_row 0 (a + i) (side - i) (λ (j : ℕ). get_or run (2 * side + j) 0) m → n ≡ with_row 0 a side (up_left side run i) l
  ul_row a l m n p first then =
      let e : i + (side - i) ≡ side = omega arith in
      then
      ∙ ap (with_row 0 (a + i) (side - i) (λ (j : ℕ). get_or run (2 * side + j) 0)) first
      ∙ row_join 0 a i (side - i) (λ (j : ℕ). get_or run (i - j - 1) 0) (λ (j : ℕ). get_or run (2 * side + j) 0) (up_left side run i) l ul_left (ul_up (side - i))
      ∙ rw e

  pub ur_at : (j : ℕ) → j < side → (get_or run (2 * side + 1 + i + 1 + j) 0 + get_or run (i + 1 + j) 0) / 2 ≡ up_right side run i j
  unfolding up_right
  ur_at j p =
      let a : 2 * side + 1 + i + 1 + j ≡ 2 * side + 1 + (i + j + 1) = omega arith in
      let b : i + 1 + j ≡ i + j + 1 = omega arith in
      rw (a, b)
