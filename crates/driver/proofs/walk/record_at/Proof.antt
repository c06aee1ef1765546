-- `driver::walk::record_at` meets its contract: the four bytes of the record. Assumes nothing.
use Prim.Native.Nat.{ℕ, ◌+◌, ◌*◌}
use mathlib.Core.Path.{◌≡◌, refl, ap}
use native.Mathlib.Omega.{arith}
use borrow.Author.Rules.{rules}
use lib.ListN.{get_or}
use Rattle.driver.proofs.walk.record_at.Statement.{statement}
use Rattle.driver.proofs.walk.record_at.Tie as tie

returns : tie.Need-returns
returns c =
    let first : 4 * c.args.k ≡ 4 * c.args.k + 0 = omega arith in
    (ap (λ (i : ℕ). get_or c.args.leaves.now i 0) first, refl, refl, refl)

pub record_at_spec : {M : Type 1} → statement M
record_at_spec =
    tie.close
    (tie.spec (λ c. search rules) (λ c. search rules) (λ c. search rules) (λ c. search rules) (λ c. search rules) (λ c. search rules) (λ c. search rules)
    (λ c. search rules) (λ c. search rules) (λ c. search rules) (λ c. search rules) returns)
