-- A table's points, and from them its pivots. Whole numbers, with no bound.
-- Assumes nothing: these are definitions.
use Rattle.std.specs.Prelude.{ℕ, zero, suc, Bool, true, false, List, ℤ, pos, negsuc, ◌+ℤ◌, ◌-ℤ◌, get_or}

-- a table's points: how many, their a (delta_qp_in_val_minus1) and their b (delta_qp_out_val)
pub record Points : Type 0 where
  pub count : ℕ
  pub a : List ℤ
  pub b : List ℤ

abbrev pub a_at : Points → ℕ → ℤ
a_at p j = get_or p.a j (pos 0)

abbrev pub b_at : Points → ℕ → ℤ
b_at p j = get_or p.b j (pos 0)

-- start s = 16 with the global flag, else -12
abbrev pub start_of : Bool → ℤ
start_of true = pos 16
start_of false = negsuc 11

-- pivot 0: in = s+a0 (no +1); pivot j: in += aj+1
unfoldable pub in_of : ℤ → Points → ℕ → ℤ
in_of s p zero = s +ℤ a_at p 0
in_of s p (suc j) = in_of s p j +ℤ (a_at p (suc j) +ℤ pos 1)

-- pivot 0: out = s+a0+b0; pivot j: out += aj+1+bj
unfoldable pub out_of : ℤ → Points → ℕ → ℤ
out_of s p zero = s +ℤ a_at p 0 +ℤ b_at p 0
out_of s p (suc j) = out_of s p j +ℤ (a_at p (suc j) +ℤ pos 1 +ℤ b_at p (suc j))

-- the QP whose entry stands at k: the index is 12+QP
unfoldable pub entry_qp : ℕ → ℤ
entry_qp k = pos k -ℤ pos 12
