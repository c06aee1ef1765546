-- `driver_check::records::residual_count` meets its contract: the square of the side in the component, where it is coded. Assumes nothing.
use Prim.Native.Nat.{◌*◌, ◌≤◌}
use native.Mathlib.Nat.{mul-le-mul}
use native.Mathlib.Omega.{arith}
use borrow.Author.Rules.{rules}
use Rattle.nbr.proofs.Sides.{scaled_le}
use Rattle.driver_check.proofs.records.residual_count.Statement.{statement}
use Rattle.driver_check.proofs.records.residual_count.Tie as tie

few : (c : tie.After-in_component-n) → c.in_component-n.result * c.in_component-n.result ≤ 4096
few c =
    rw c.in_component-n.ensures
    (let n = scaled_le c.args.part c.args.side 64 c.requires in mul-le-mul {n₂ = 64} {m₂ = 64} n n)

returns : tie.Need-returns-then-coded
returns c = (rw (c.if-coded.true, c.in_component-n.ensures), few c.before)

pub residual_count_spec : {M : Type 1} → statement M
residual_count_spec =
    tie.close (tie.spec (λ c κs. search rules) (λ c. omega (arith, few c.before)) returns (λ c. search rules))
