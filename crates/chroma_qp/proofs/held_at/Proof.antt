-- `chroma_qp::held_at` meets its contract: an entry and 12 is what it is held as. Assumes nothing.
use Prim.Native.Nat.{ℕ, ◌≤◌}
use borrow.Author.Rules.{rules}
use mathlib.Core.Path.{◌≡◌, sym, ap, ◌∙◌}
use native.Mathlib.Omega.{arith}
use mir.Syntax.{w8}
use mir.Val.{SFits, to_z, of_z}
use lib.IntN.{ℤ, pos, ◌+ℤ◌}
use Rattle.laws.proofs.Widths.{sfits, back}
use Rattle.chroma_qp_check.proofs.Offsets.{qp_held}
use Rattle.chroma_qp.specs.Held.{Entry}
use Rattle.chroma_qp.proofs.Bytes.{entry_fits}
use Rattle.chroma_qp.proofs.held_at.Statement.{statement}
use Rattle.chroma_qp.proofs.held_at.Tie as tie

small : (v : ℕ) → v ≤ 103 → SFits w8 (pos v)
small v h = sfits w8 103 h tt

-- the sum, as the machine reads it
module _ (z : ℤ) (e : Entry z) where
  sum : to_z w8 (of_z w8 z) +ℤ pos 12 ≡ pos e.v
  sum = ap (λ (z : ℤ). to_z w8 (of_z w8 z) +ℤ pos 12) e.is ∙ rw (back w8 _ (entry_fits e.v e.most)) (qp_held e.v)

  read : to_z w8 (of_z w8 (to_z w8 (of_z w8 z) +ℤ pos 12)) ≡ pos e.v
  read = ap (λ (z : ℤ). to_z w8 (of_z w8 z)) sum ∙ back w8 (pos e.v) (small e.v e.most)

add_result : tie.Need-overflow_add-result
add_result c = let e = c.requires.1 in rw (sum _ e) (small e.v e.most)

cast_result : tie.Need-overflow_cast-result
cast_result c = let e = c.requires.1 in rw (read _ e) (tt, record { fits = omega (arith, e.most) })

returns : tie.Need-returns
returns c = let e = c.requires.1 in rw (read _ e) (sym e.is)

pub held_at_spec : {M : Type 1} → statement M
held_at_spec = tie.close (tie.spec (λ c. search rules) add_result cast_result returns)
