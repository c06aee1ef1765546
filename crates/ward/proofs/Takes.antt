-- Laws of parts of lists: what was written first, and some samples more of a list.
--     row_first, take_more, take_all
-- Assumes nothing.
use mathlib.Core.List.{List, ◌++◌}
use mathlib.Core.Path.{◌≡◌, sym, ap₂, ◌∙◌}
use Prim.Native.Nat.{ℕ, ◌+◌, ◌-◌, ◌≤◌, ◌<◌}
use native.Mathlib.Omega.{arith}
use lib.ListN.{length, get_or, take, drop, length-take, length-drop, take-append-drop}
use lib.Seq.{ext_get_or, get_or-take, get_or-drop, take-take}
use Rattle.laws.specs.Index.{tabulate}
use Rattle.laws.specs.Plane.{with_row}
use Rattle.laws.proofs.Planes.{get_d_row, length_row, within_yes}
use Rattle.laws.proofs.Tabulate.{is_tabulate}

-- what was written first, taken out again
pub row_first : (n : ℕ) (g : ℕ → ℕ) (l : List ℕ) → n ≤ length l → take n (with_row 0 0 n g l) ≡ tabulate n g
row_first n g l h = is_tabulate g n (take n (with_row 0 0 n g l)) 0 long at where
  long : length (take n (with_row 0 0 n g l)) ≡ n
  long = simp (length-take, length_row 0 0 n g l) (omega arith)

  at : (k : ℕ) → k < n → get_or (take n (with_row 0 0 n g l)) k 0 ≡ g k
  at k q =
      let z : k - 0 ≡ k = omega arith in
      get_or-take n (with_row 0 0 n g l) k 0 q ∙ get_d_row 0 0 n g l k (omega arith) ∙ rw (within_yes 0 n k (omega arith) (omega arith), z)

module _ (l : List ℕ) where
  pub take_more : (a n : ℕ) → a + n ≤ length l → take a l ++ tabulate n (λ (j : ℕ). get_or l (a + j) 0) ≡ take (a + n) l
  take_more a n h = ap₂ (λ (b c : List ℕ). b ++ c) (sym (take-take a (a + n) l (omega arith))) (sym rest) ∙ take-append-drop a (take (a + n) l) where
    rest : drop a (take (a + n) l) ≡ tabulate n (λ (j : ℕ). get_or l (a + j) 0)
    rest =
        is_tabulate (λ (j : ℕ). get_or l (a + j) 0) n (drop a (take (a + n) l)) 0 (simp (length-drop, length-take) (omega arith))
        (λ k q. get_or-drop a (take (a + n) l) k 0 ∙ get_or-take (a + n) l (a + k) 0 (omega arith))

  pub take_all : (n : ℕ) → length l ≤ n → take n l ≡ l
  take_all n h = ext_get_or 0 _ _ long (λ k q. get_or-take n l k 0 (omega (arith, long))) where
    long : length (take n l) ≡ length l
    long = simp length-take (omega arith)
