-- The paper's worked numbers: in one table what is asked, over the modules' own definitions, and what is to come out. The theorem is `numbers`.
-- Assumes nothing: these are definitions.
use Rattle.std.specs.Prelude.{ℕ, ◌+◌, Bool, true, false, List, [], ◌∷◌, ◌++◌, map, ℤ, pos, negsuc, get_or, set, replicate}
use Rattle.laws.specs.Index.{tabulate}
use Rattle.def.specs.declared.Component.{Component}
use Rattle.def.specs.declared.Component.TheVariants.{Luma, Chroma}
use Rattle.def.specs.Word.{leaf_word}
use Rattle.chroma_qp_check.specs.Pivots.{Points, start_of, out_of}
use Rattle.chroma_qp.specs.Mapping.{table_of}
use Rattle.ipred.specs.Modes.{predicted, block_of}
use Rattle.line.specs.Line.{mask_of}
use Rattle.df_rules.specs.Strength.{Maps, row_at, strength_of}
use Rattle.df_rules.specs.Window.{window_at}

pub data Asked : Type 0 where
  -- the line A B | C D, as deblocking leaves it: a window of one line, at the strength of an edge whose entry is given
  filtered : Component → (entry A B C D : ℕ) → Asked
  -- the strength row of two units, neither intra nor luma-coded, whose motion differs by a number
  row : (by : ℕ) → Asked
  -- the block that DC predicts from the samples left of it, the corner and those above
  dc : (side : ℕ) (left : List ℕ) (corner : ℕ) (up : List ℕ) → Asked
  -- with the global flag, n entries of the table from a QP on; and the out of a pivot
  entries : Points → (from n : ℕ) → Asked
  pivot_out : Points → (j : ℕ) → Asked

-- ---- the answers

-- two units of QP 30, P and then Q, intra or not: one reference each, in list 0, and Q's motion there is x
abbrev pub units : Bool → (x : ℕ) → Maps
units intra x =
    record {
      words = leaf_word intra 30 false ∷ leaf_word intra 30 false ∷ [];
      over = record {
        motion = pos 0 ∷ pos 0 ∷ pos 0 ∷ pos 0 ∷ pos x ∷ pos 0 ∷ pos 0 ∷ pos 0 ∷ [];
        refs = pos 0 ∷ negsuc 0 ∷ pos 0 ∷ negsuc 0 ∷ [];
        keep = 0 ∷ 0 ∷ [];
      };
    }

-- the strength between two intra units, by a table whose one entry above 0 is e, in row 0 at their QP
abbrev pub strength_by : (entry : ℕ) → ℕ
strength_by e = strength_of (units true 0) (set (replicate 208 0) 30 e) (λ (qp : ℕ). qp) 1 0

unfoldable pub answered : Asked → List ℤ
answered (filtered c e A B C D) = map pos (window_at (mask_of c false false) (strength_by e) 1 4 0 1 (A ∷ B ∷ C ∷ D ∷ []))
answered (row n) = pos (row_at (units false n) 1 0) ∷ []
answered (dc side left corner up) = map pos (block_of side (predicted 0 side (left ++ (corner ∷ up))))
answered (entries p from n) = tabulate n (λ (m : ℕ). get_or (table_of (start_of true) p) (12 + (from + m)) (pos 0))
answered (pivot_out p j) = out_of (start_of true) p j ∷ []

-- ---- the table

pub record Line : Type 0 where
  pub asked : Asked
  pub answer : List ℤ

abbrev pub gives : Asked → List ℕ → Line
gives a l = record { asked = a; answer = map pos l }

-- a = 0,5 and b = 0,-2; a = 0,3 and b = 0,-6
abbrev pub rising : Points
rising = record { count = 2; a = pos 0 ∷ pos 5 ∷ []; b = pos 0 ∷ negsuc 1 ∷ [] }

abbrev pub falling : Points
falling = record { count = 2; a = pos 0 ∷ pos 3 ∷ []; b = pos 0 ∷ negsuc 5 ∷ [] }

-- z: whatever stands at the places that a line leaves open
abbrev pub table : ℕ → List Line
table z =
    gives (filtered Luma 3 100 100 120 120) (103 ∷ 107 ∷ 113 ∷ 117 ∷ [])
    ∷ gives (filtered Chroma 3 100 100 120 120) (100 ∷ 107 ∷ 113 ∷ 120 ∷ [])
    ∷ gives (filtered Luma 1 100 100 120 120) (100 ∷ 101 ∷ 119 ∷ 120 ∷ [])
    ∷ gives (filtered Luma 3 120 120 100 100) (117 ∷ 113 ∷ 107 ∷ 103 ∷ [])
    ∷ gives (filtered Luma 1 100 100 121 121) (100 ∷ 101 ∷ 120 ∷ 121 ∷ [])
    ∷ gives (filtered Luma 1 100 100 122 122) (100 ∷ 100 ∷ 122 ∷ 122 ∷ [])
    ∷ gives (filtered Luma 1 100 100 99 103) (100 ∷ 100 ∷ 99 ∷ 103 ∷ [])
    ∷ gives (filtered Luma 64 1023 1022 1022 0) (960 ∷ 1023 ∷ 895 ∷ 63 ∷ [])
    ∷ gives (row 3) (3 ∷ [])
    ∷ gives (row 4) (2 ∷ [])
    ∷ gives (dc 4 (replicate 8 100) z (replicate 8 101)) (replicate 16 101)
    ∷ gives (dc 2 (10 ∷ 11 ∷ z ∷ z ∷ []) z (12 ∷ 12 ∷ z ∷ z ∷ [])) (replicate 4 11)
    ∷ gives (entries rising 17 6) (17 ∷ 17 ∷ 18 ∷ 19 ∷ 19 ∷ 20 ∷ [])
    ∷ gives (entries falling 17 4) (16 ∷ 16 ∷ 15 ∷ 15 ∷ [])
    ∷ gives (pivot_out falling 1) (14 ∷ [])
    ∷ []
