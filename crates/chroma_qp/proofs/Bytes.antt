-- An entry, held as v, as a byte.
-- Assumes nothing.
use Prim.Native.Nat.{ℕ, ◌≤◌}
use native.Mathlib.Omega.{arith}
use lib.Signed.{mag}
use mir.Syntax.{w8}
use mir.Val.{SFits}
use Rattle.laws.proofs.Differences.{diff_cases}
use Rattle.laws.proofs.Widths.{sfits}
use Rattle.chroma_qp_check.specs.Pivots.{entry_qp}

pub entry_fits : (v : ℕ) → v ≤ 103 → SFits w8 (entry_qp v)
unfolding entry_qp
entry_fits v h = sfits w8 103 (diff_cases (λ z. mag z ≤ 103) v 12 (λ g p. omega arith) (λ g p. omega arith)) tt
