-- Units of the maps: what `place_at` and `marks_at` answer for two of them is the rule's.
--     place_in_lem    52 times the row by the rule, and q's QP; a map of edge rows that has q's byte has that row in it
--     marks_in_lem    p's mark, and twice q's
-- Assumes nothing.
use Prim.Native.Nat.{ℕ, ◌+◌, ◌*◌, ◌≤◌, ◌<◌}
use mathlib.Core.List.{List, []}
use mathlib.Core.Path.{◌≡◌}
use native.Mathlib.Decide.{dec_lt}
use native.Mathlib.Omega.{arith}
use borrow.Author.Tests.{lt-ltb, le-ltb}
use lib.IntN.{ℤ}
use lib.ListN.{length, get_or}
use Rattle.laws.specs.Bits.{field_of}
use Rattle.def.specs.Word.{qp_of}
use Rattle.split.specs.Edges.{Pass}
use Rattle.df_rules.specs.Strength.{row_by}
use Rattle.df_rules.proofs.Strengths.{row_few}
use Rattle.row.specs.Between.{There}
use Rattle.row.proofs.Units.{row_in_lem}
use Rattle.rows_rules.specs.Rule.{first_bit}
use Rattle.edge_place.specs.Places.{lent_row, place_in, marks_in}

module _ (d : Pass) (words : List ℕ) (motion refs : List ℤ) (rows : List ℕ) (q p : ℕ) (a : There words motion refs q) (b : There words motion refs p)
    (says : q < length rows → field_of (first_bit d) 2 (get_or rows q 0) ≡ row_by words motion refs q p) where
  lent_row_lem : lent_row d words motion refs rows q p ≡ row_by words motion refs q p
  unfolding lent_row
  lent_row_lem = at (dec_lt q (length rows)) where
    at : Dec (q < length rows) → lent_row d words motion refs rows q p ≡ row_by words motion refs q p
    at (yes h) = rw (lt-ltb q (length rows) h) (says h)
    at (no h) = rw (le-ltb q (length rows) (omega arith)) (row_in_lem _ _ _ _ _ a b)

  pub place_in_lem : qp_of (get_or words q 0) ≤ 51 → place_in d words motion refs rows q p ≡ 52 * row_by words motion refs q p + qp_of (get_or words q 0)
  unfolding place_in
  place_in_lem few =
      let r = row_few (record { words = words; over = record { motion = motion; refs = refs; keep = [] } }) q p in
      rw lent_row_lem (omega (arith, r, few))

pub marks_in_lem : (keep : List ℕ) (q p : ℕ) → get_or keep q 0 ≤ 1 → get_or keep p 0 ≤ 1 → marks_in keep q p ≡ get_or keep p 0 + 2 * get_or keep q 0
unfolding marks_in
marks_in_lem keep q p a b = omega (arith, a, b)
