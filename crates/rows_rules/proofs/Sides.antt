-- A unit's sides: what lies there, the row of the edge, and which edges are those of one unit.
--     last_column, next_column    a step along a row of units
--     before    the unit on a side comes before
--     no_edge, some_edge    a row as the code works it out
--     column_of, row_of    a unit's column and row, by its place
--     right_in, lower_in, right_side, lower_side    a unit's neighbours
--     row_few, edge_few    a row is one of four
--     left_put, top_put, byte_of, flag_at_15, flag_at_24    bits as the code sets them
-- Assumes nothing.
use Prim.Native.Nat.{ℕ, zero, suc, ◌+◌, ◌-◌, ◌*◌, ◌/◌, ◌%◌, ◌≤◌, ◌<◌}
use mathlib.Core.Path.{◌≡◌, sym, ap, ◌∙◌}
use mathlib.Core.Bool.{Bool, true, false, not}
use mathlib.Core.List.{List, []}
use native.Mathlib.Nat.{mod_self, mod-lt, mod-eq_of_lt, div-eq_of_lt, mod-add-div', mul-le-mul_right, mul-add-mod_self_right, mul-add-div_right, add-zero, mul_comm}
use native.Mathlib.Decide.{dec_lt}
use native.Mathlib.Omega.{arith}
use borrow.Author.Tests.{ltb-true, lt-ltb, le-ltb, le-leb, lt-leb, not-true, not-false}
use lib.Dec.{ltb, leb}
use lib.IntN.{ℤ}
use lib.ListN.{length}
use Rattle.laws.specs.Bits.{with_field}
use Rattle.laws.specs.Index.{pick}
use Rattle.laws.proofs.Flat.{next_row}
use Rattle.laws.proofs.Places.{place_below}
use Rattle.split.specs.Edges.{Pass, vertical, horizontal}
use Rattle.df_rules.specs.Places.{step_across}
use Rattle.df_rules.specs.Strength.{row_by}
use Rattle.df_rules.proofs.Strengths as strengths
use Rattle.row.specs.Between.{row_in, There}
use Rattle.row.proofs.Units.{row_in_lem}
use Rattle.rows_rules.specs.Inside.{Lent, UnitAt}
use Rattle.rows_rules.specs.Rule.{has_side, edge_row}

-- ---- bits, by division and remainder

pub left_put : (b r : ℕ) → b / 4 * 4 + r ≡ with_field 0 2 r b
unfolding with_field
left_put b r = omega arith

pub top_put : (b r : ℕ) → b / 16 * 16 + 4 * r + b % 4 ≡ with_field 2 2 r b
unfolding with_field
top_put b r = omega arith

pub byte_of : (l t : ℕ) → l ≤ 3 → 4 * t + l ≡ with_field 2 2 t (with_field 0 2 l 0)
unfolding with_field
byte_of l t h = omega arith

pub flag_at_15 : (word b : ℕ) → word / 65536 * 65536 + b * 32768 + word % 32768 ≡ with_field 15 1 b word
unfolding with_field
flag_at_15 word b = omega arith

pub flag_at_24 : (word b : ℕ) → word / 33554432 * 33554432 + b * 16777216 + word % 16777216 ≡ with_field 24 1 b word
unfolding with_field
flag_at_24 word b = omega arith

-- ---- along a row of units

pub last_column : (c x : ℕ) → x + 1 ≡ c → 0 ≡ (x + 1) % c
last_column c x e = sym (ap (λ (z : ℕ). z % c) e ∙ mod_self c)

pub next_column : (c x : ℕ) → x < c → (x + 1 ≡ c → ⊥) → x + 1 ≡ (x + 1) % c
next_column c x p n = sym (mod-eq_of_lt (strictly p n)) where
  strictly : x < c → (x + 1 ≡ c → ⊥) → x + 1 < c
  strictly p n = omega arith

-- ---- the unit on a side

pub before : (d : Pass) (c k : ℕ) → has_side d c k ≡ true → step_across d c ≤ k
before vertical c k e = omega (arith, ltb-true 0 (k % c) e, mod-add-div' k c)
before horizontal c k e = omega (arith, mul-le-mul_right {m = 1} {n = k / c} c (ltb-true 0 (k / c) e), mod-add-div' k c)

-- past the first row is a row further down
pub past_row : (c k : ℕ) → 0 < c → leb c k ≡ ltb 0 (k / c)
past_row c k some = go (dec_lt k c) where
  go : Dec (k < c) → leb c k ≡ ltb 0 (k / c)
  go (yes p) = lt-leb c k p ∙ sym (ap (ltb 0) (div-eq_of_lt p))
  go (no p) = le-leb c k (omega arith) ∙ sym (lt-ltb 0 (k / c) (some_rows (k / c) (mod-add-div' k c) (mod-lt k some) (omega arith))) where
    some_rows : (r : ℕ) → k % c + r * c ≡ k → k % c < c → c ≤ k → 0 < r
    some_rows zero e l h = absurd (omega arith)
    some_rows (suc r) e l h = omega arith

module _ {c : ℕ} {words : List ℕ} {motion refs : List ℤ} (l : Lent c words motion refs) where
  unit_in : (k : ℕ) → k < length words → There words motion refs k
  unit_in k h = record { word = h; mv = omega (arith, l.long_motion); refi = omega (arith, l.long_refs) }

  pub some_edge : (d : Pass) (k p r : ℕ) (there : Bool) → k < length words → there ≡ has_side d c k → not there ≡ false → p ≡ k - step_across d c
      → r ≡ row_in words motion refs k p → r ≡ edge_row words motion refs c d k
  unfolding edge_row
  some_edge d k p r there h e n q f =
      let s : has_side d c k ≡ true = sym e ∙ not-false there n in
      f ∙ ap (row_in words motion refs k) q ∙ row_in_lem words motion refs k (k - step_across d c) (unit_in k h) (unit_in _ (omega arith)) ∙ rw s

pub no_edge : (words : List ℕ) (motion refs : List ℤ) (c : ℕ) (d : Pass) (k : ℕ) (there : Bool) → there ≡ has_side d c k → not there ≡ true → 0 ≡ edge_row words motion refs c d k
unfolding edge_row
no_edge words motion refs c d k there e n = rw (sym e ∙ not-true there n)

-- ---- a row is one of four

pub row_few : (words : List ℕ) (motion refs : List ℤ) (q p : ℕ) → row_by words motion refs q p ≤ 3
row_few words motion refs q p = strengths.row_few (record { words = words; over = record { motion = motion; refs = refs; keep = [] } }) q p

pub edge_few : (words : List ℕ) (motion refs : List ℤ) (c : ℕ) (d : Pass) (k : ℕ) → edge_row words motion refs c d k ≤ 3
unfolding edge_row
edge_few words motion refs c d k = go (has_side d c k) where
  go : (b : Bool) → pick b (row_by words motion refs k (k - step_across d c)) 0 ≤ 3
  go true = row_few words motion refs k (k - step_across d c)
  go false = omega arith

-- ---- the unit at column x, row y

module _ (c x y : ℕ) (p : x < c) where
  pub column_of : (y * c + x) % c ≡ x
  column_of = mul-add-mod_self_right y c x ∙ mod-eq_of_lt p

  pub row_of : (y * c + x) / c ≡ y
  row_of = mul-add-div_right (omega arith) y x ∙ ap (λ (k : ℕ). y + k) (div-eq_of_lt p) ∙ add-zero y

module _ {c h n x y : ℕ} (u : UnitAt c h n x y) where
  pub unit_in_map : y * c + x < n
  unit_in_map = place_below c h x y n u.column u.row u.whole

  pub own_left : ltb 0 x ≡ has_side vertical c (y * c + x)
  own_left = ap (ltb 0) (sym (column_of c x y u.column))

  pub own_top : ltb 0 y ≡ has_side horizontal c (y * c + x)
  own_top = ap (ltb 0) (sym (row_of c x y u.column))

  next_place : y * c + x + 1 ≡ y * c + (x + 1)
  next_place = omega arith

  below_place : y * c + x + c ≡ (y + 1) * c + x
  below_place = omega (arith, next_row y c)

  pub right_in : x + 1 < c → y * c + x + 1 < n
  right_in p = rw next_place (place_below c h (x + 1) y n p u.row u.whole)

  pub lower_in : y + 1 < h → y * c + x + c < n
  lower_in p = rw below_place (place_below c h x (y + 1) n u.column p u.whole)

  -- the unit after it is its right neighbour where the row goes on
  pub right_side : has_side vertical c (y * c + x + 1) ≡ ltb (x + 1) c
  right_side = go (dec_lt (x + 1) c) where
    go : Dec (x + 1 < c) → has_side vertical c (y * c + x + 1) ≡ ltb (x + 1) c
    go (yes p) = ap (λ (k : ℕ). ltb 0 (k % c)) next_place ∙ ap (ltb 0) (column_of c (x + 1) y p) ∙ lt-ltb 0 (x + 1) (omega arith) ∙ sym (lt-ltb (x + 1) c p)
    go (no p) =
        let e : x + 1 ≡ c = omega (arith, u.column) in
        ap (λ (k : ℕ). ltb 0 (k % c)) next_place ∙ ap (ltb 0) (mul-add-mod_self_right y c (x + 1) ∙ sym (last_column c x e)) ∙ sym (le-ltb (x + 1) c (omega arith))

  pub lower_side : has_side horizontal c (y * c + x + c) ≡ true
  lower_side = ap (λ (k : ℕ). ltb 0 (k / c)) below_place ∙ ap (ltb 0) (row_of c x (y + 1) u.column) ∙ lt-ltb 0 (y + 1) (omega arith)

  -- a place of the map that lies a row further down has that row
  pub lower_row : y * c + x + c < n → y + 1 < h
  lower_row p = go (dec_lt (y + 1) h) where
    go : Dec (y + 1 < h) → y + 1 < h
    go (yes q) = q
    go (no q) = absurd (omega (arith, below_place, mul-le-mul_right {m = h} {n = y + 1} c (omega arith), u.whole, mul_comm c h))
