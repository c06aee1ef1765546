-- `edge_place::unit_at` meets its contract: its row and its column; no sum overflows. Assumes nothing.
use Prim.Native.Nat.{ℕ, ◌*◌, ◌/◌, ◌≤◌}
use mathlib.Core.Path.{refl}
use native.Mathlib.Nat.{mul-le-mul}
use native.Mathlib.Omega.{arith}
use borrow.Author.Rules.{rules}
use Rattle.edge_place.proofs.unit_at.Statement.{statement}
use Rattle.edge_place.proofs.unit_at.Tie as tie

small : (n w : ℕ) → n ≤ 16383 → w ≤ 65535 → n * w ≤ 1073659905
small n w h k = mul-le-mul {n₁ = n} {m₁ = w} {n₂ = 16383} {m₂ = 65535} h k

product : (c : tie.Start) → c.args.y / 4 * c.args.columns ≤ 1073659905
product c = small (c.args.y / 4) c.args.columns (omega arith) c.requires

pub unit_at_spec : {M : Type 1} → statement M
unit_at_spec = tie.close (tie.spec (λ c. search rules) (λ c. omega (arith, product c)) (λ c. search rules) (λ c. omega (arith, product c)) (λ c. refl))
