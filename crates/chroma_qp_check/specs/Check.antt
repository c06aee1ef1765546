-- The checks of `derived_chroma_qp_mapping_tables`: its refusals in their order.
-- Assumes nothing: these are definitions.
use Rattle.std.specs.Prelude.{ℕ, ◌≤◌, ◌≡◌, Bool, true, ◌||◌, List, [], ◌∷◌, leb, eqb, ℤ, pos, negsuc, length, get_or, Ok, Err}
use Rattle.std.specs.Int.Signed.{le_z}
use Rattle.laws.specs.Call.{unless, all_of}
use Rattle.laws.specs.Scan.{all_below}
use Rattle.def.specs.declared.Refusal.TheVariants.{Length, Points, Pivot}
use Rattle.def.specs.Answers.{Answer}
use Rattle.chroma_qp_check.specs.Pivots as pivots
use Rattle.chroma_qp_check.specs.Pivots.{start_of, in_of, out_of}

-- what is lent to a call. Of the tables the length alone
pub record Input : Type 0 where
  pub global_offset : Bool
  pub same_table : Bool
  pub first : pivots.Points
  pub second : pivots.Points
  pub t0 : ℕ
  pub t1 : ℕ

abbrev pub input_start : Input → ℤ
input_start i = start_of i.global_offset

-- 58 of each a and b, and tables of 70 entries
abbrev pub length_tests : (a0 b0 a1 b1 t0 t1 : ℕ) → List Bool
length_tests a0 b0 a1 b1 t0 t1 = eqb a0 58 ∷ eqb b0 58 ∷ eqb a1 58 ∷ eqb b1 58 ∷ eqb t0 70 ∷ eqb t1 70 ∷ []

unfoldable pub lengths_ok : (a0 b0 a1 b1 t0 t1 : ℕ) → Bool
lengths_ok a0 b0 a1 b1 t0 t1 = all_of (length_tests a0 b0 a1 b1 t0 t1)

abbrev pub input_lengths_ok : Input → Bool
input_lengths_ok i = lengths_ok (length i.first.a) (length i.first.b) (length i.second.a) (length i.second.b) i.t0 i.t1

-- a count of 1..58, and no a below 0 among the points counted
abbrev pub point_tests : ℕ → List ℤ → List Bool
point_tests count a = leb 1 count ∷ leb count 58 ∷ all_below (λ (j : ℕ). le_z (pos 0) (get_or a j (pos 0))) count ∷ []

unfoldable pub points_ok : ℕ → List ℤ → Bool
points_ok count a = all_of (point_tests count a)

-- a pivot, in and out, within -12..57
abbrev pub pivot_tests : ℤ → ℤ → List Bool
pivot_tests i o = le_z (negsuc 11) i ∷ le_z i (pos 57) ∷ le_z (negsuc 11) o ∷ le_z o (pos 57) ∷ []

unfoldable pub pivot_ok : ℤ → pivots.Points → ℕ → Bool
pivot_ok s p j = all_of (pivot_tests (in_of s p j) (out_of s p j))

-- every pivot
unfoldable pub pivots_ok : ℤ → pivots.Points → Bool
pivots_ok s p = all_below (pivot_ok s p) p.count

-- 2, then 10 in either table, then 11 in either. Under the one-table flag the second's points are not read
unfoldable pub check : Input → Answer
check i =
    unless (input_lengths_ok i) (Err Length)
    (unless (points_ok i.first.count i.first.a) (Err Points)
    (unless (i.same_table || points_ok i.second.count i.second.a) (Err Points)
    (unless (pivots_ok (input_start i) i.first) (Err Pivot)
    (unless (i.same_table || pivots_ok (input_start i) i.second) (Err Pivot)
    (Ok tt)))))

-- what has been checked of a table's points, their count and their a, before its pivots
pub record Counted (s : ℕ) (p : pivots.Points) : Type 0 where
  pub start : s ≤ 28
  pub a_long : length p.a ≡ 58
  pub b_long : length p.b ≡ 58
  pub points : points_ok p.count p.a ≡ true
