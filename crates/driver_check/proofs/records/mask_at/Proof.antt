-- `driver_check::records::mask_at` meets its contract: past the end of a list there is 0. Assumes nothing.
use Prim.Native.Nat.{◌+◌, ◌*◌, ◌≤◌}
use mathlib.Core.Path.{sym}
use native.Mathlib.Omega.{arith}
use borrow.Author.Rules.{rules}
use lib.ListN.{length, get_or-eq_default}
use Rattle.driver_check.proofs.records.mask_at.Statement.{statement}
use Rattle.driver_check.proofs.records.mask_at.Tie as tie

returns-2 : tie.Need-returns
returns-2 c =
    let out : length c.args.leaves.now ≤ 4 * c.args.k + 2 = omega (arith, c.if-i-leaves.false) in
    sym (get_or-eq_default c.args.leaves.now 0 out)

pub mask_at_spec : {M : Type 1} → statement M
mask_at_spec =
    tie.close (tie.spec (λ c. search rules) (λ c. search rules) (λ c. search rules) (λ c. search rules) returns-2)
