-- `mend::put_change` meets its contract: five numbers, or none. Assumes nothing.
use native.Mathlib.Omega.{arith}
use borrow.Author.Rules.{rules}
use lib.ListN.{length-set}
use Rattle.mend.proofs.Lists.{listed_none, listed_as, listed_one, change_none, change_one}
use Rattle.mend.proofs.put_change.Statement.{statement}
use Rattle.mend.proofs.put_change.Tie as tie

returns-2 : tie.Need-returns
returns-2 c = listed_as (change_one _ _ _ _ (omega arith)) (rw (c.from.ensures, c.from-2.ensures) (listed_one _ _ _))

pub put_change_spec : {M : Type 1} → statement M
put_change_spec =
    tie.close
    (tie.spec
    (λ c. listed_as (change_none _ _ _ _ (omega arith)) (listed_none _ _))
    (λ c. search rules)
    (λ c. search rules)
    (λ c. search rules)
    (λ c. search rules)
    (λ c. search rules)
    (λ c. search rules)
    (λ c. search rules)
    (λ c. simp length-set (omega arith))
    (λ c. search rules)
    (λ c. search rules)
    (λ c. search rules)
    (λ c. simp length-set (omega arith))
    (λ c κs. search rules)
    (λ c. search rules)
    (λ c. search rules)
    (λ c. simp length-set (omega arith))
    (λ c κs. search rules)
    (λ c. search rules)
    (λ c. search rules)
    (λ c. simp length-set (omega arith))
    (λ c. search rules)
    (λ c. simp length-set)
    returns-2)
