-- How the code counts: the start, an in, an out and an entry are held as 12 more than they are, and so none is below 0. `entry_qp` gives what is held.
-- Each entry is shown to be what Mapping says (proofs/Parts, proofs/Clipped). Assumes nothing: these are definitions.
use Rattle.std.specs.Prelude.{ℕ, ◌+◌, ◌-◌, ◌*◌, ◌/◌, ◌≤◌, min, ◌≡◌, true, ℤ}
use Rattle.chroma_qp_check.specs.Check.{pivots_ok, Counted}
use Rattle.chroma_qp_check.specs.Pivots.{Points, entry_qp}

-- the entry at k, up to the first pivot's in, where its out stands
unfoldable pub held_below : (qpIn qpOut k : ℕ) → ℕ
held_below qpIn qpOut k = qpOut + k - qpIn

-- the entry m past one of v, on the way from a pivot's out to that of the next, n entries on
unfoldable pub held_between : (v from to n m : ℕ) → ℕ
held_between v from to n m = v + (to * m + n / 2 - from * m) / n - (from * m - (to * m + n / 2)) / n

-- the entry m past the last pivot's, v
unfoldable pub held_past : (v m : ℕ) → ℕ
held_past v m = min (v + m) 69

-- an entry z, which is held as v
pub record Entry (z : ℤ) : Type 0 where
  pub v : ℕ
  pub is : z ≡ entry_qp v
  pub most : v ≤ 103

-- what has been checked of a table's points: their count and their a, and then their pivots
pub record Checked (s : ℕ) (p : Points) : Type 0 where
  pub counted : Counted s p
  pub pivots : pivots_ok (entry_qp s) p ≡ true
