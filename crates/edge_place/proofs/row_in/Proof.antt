-- `edge_place::row_in` meets its contract: the two bits of the pass's side. Assumes nothing.
use Prim.Native.Nat.{ℕ, ◌/◌, ◌%◌}
use mathlib.Core.Path.{◌≡◌, refl}
use native.Mathlib.Omega.{arith}
use borrow.Author.Rules.{rules}
use Rattle.laws.specs.Bits.{field_of}
use Rattle.edge_place.proofs.row_in.Statement.{statement}
use Rattle.edge_place.proofs.row_in.Tie as tie

low : (b : ℕ) → b % 4 ≡ field_of 0 2 b
unfolding field_of
low b = omega arith

high : (b : ℕ) → b / 4 % 4 ≡ field_of 2 2 b
unfolding field_of
high b = refl

returns : tie.Need-returns-then-horizontal
returns c = (rw c.if-horizontal.true (high _), omega arith)

returns-2 : tie.Need-returns-else-horizontal
returns-2 c = (rw c.if-horizontal.false (low _), omega arith)

pub row_in_spec : {M : Type 1} → statement M
row_in_spec = tie.close (tie.spec (λ c. search rules) (λ c. search rules) returns returns-2)
