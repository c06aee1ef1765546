-- `marks::byte_place` meets its contract. Assumes nothing.
use Prim.Native.Nat.{ℕ, ◌+◌, ◌*◌, ◌%◌, ◌<◌}
use mathlib.Core.Path.{ap₂}
use native.Mathlib.Omega.{arith}
use borrow.Author.Rules.{rules}
use Rattle.marks.proofs.byte_place.Statement.{statement}
use Rattle.marks.proofs.byte_place.Tie as tie

-- a level, a row and a column
cell : (level row column : ℕ) → level < 4 → row < 16 → column < 16 → 256 * level + (16 * row + column) < 1024
cell level row column p q r = omega arith

returns : tie.Need-returns
returns c = (
  ap₂ (λ (m n : ℕ). 256 * c.args.level + (16 * (m % 16) + n % 16))
      c.pel2scu-row.ensures c.pel2scu-column.ensures,
  cell _ _ _ c.requires.2 (omega arith) (omega arith),
)

pub byte_place_spec : {M : Type 1} → statement M
byte_place_spec =
    tie.close
    (tie.spec
    (λ c. search rules)
    (λ c κs. search rules)
    (λ c. search rules)
    (λ c κs. search rules)
    (λ c. search rules)
    (λ c. search rules)
    (λ c. search rules)
    (λ c. search rules)
    returns)
