-- `driver_check::check::records_ok` meets its contract: the length first, and then the other tests. Assumes nothing.
use mathlib.Core.Path.{◌≡◌, sym}
use mathlib.Core.Bool.{false}
use mathlib.Core.List.{List}
use Prim.Native.Nat.{ℕ, ◌*◌}
use native.Mathlib.Omega.{arith}
use borrow.Author.Rules.{rules}
use borrow.Author.Tests.{eq-eqb, ne_eqb}
use lib.ListN.{length}
use Rattle.def.specs.declared.Format.{Format}
use Rattle.laws.proofs.Calls.{all_fails}
use Rattle.driver_rules.specs.Call.{record_tests, records_ok}
use Rattle.driver_check.proofs.check.records_ok.Statement.{statement}
use Rattle.driver_check.proofs.check.records_ok.Tie as tie

too_long : (format : Format) (leaves : List ℕ) (residual at n : ℕ) → (length leaves ≡ 4 * n → ⊥) → false ≡ records_ok format leaves residual at n
unfolding records_ok
too_long format leaves residual at n h = sym (all_fails (record_tests format leaves residual at n) 0 (ne_eqb _ _ h))

returns-2 : tie.Need-returns
unfolding records_ok
returns-2 c = rw (eq-eqb (length c.args.leaves.now) (4 * c.args.n) (omega arith), c.bytes_ok.ensures, c.bytes_ok-2.ensures, c.most_mask-most.ensures)

pub records_ok_spec : {M : Type 1} → statement M
records_ok_spec =
    tie.close (tie.spec (λ c. search rules) (λ c. too_long _ _ _ _ _ (omega arith)) (λ c κs. search rules) (λ c κs. search rules) (λ c κs. search rules) returns-2)
