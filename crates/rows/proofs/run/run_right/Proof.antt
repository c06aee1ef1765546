-- `rows::run::run_right` meets its contract: the bytes of the run, compared. Assumes nothing.
use Prim.Native.Nat.{◌+◌}
use mathlib.Core.Path.{ap, ◌∙◌}
use borrow.Author.Rules.{rules}
use lib.Dec.{eqb}
use lib.ListN.{get_or}
use Rattle.rows_rules.proofs.Runs.{scan_same}
use Rattle.rows.proofs.run.run_right.Statement.{statement}
use Rattle.rows.proofs.run.run_right.Tie as tie

returns : tie.Need-returns
returns c r =
    let a = c.args in
    c.same_bytes.ensures ∙ scan_same _ _ a.n (λ j h. ap (eqb (get_or a.rows.now (a.k + j) 0)) ((c.put_run.ensures.0 r).at j h))

pub run_right_spec : {M : Type 1} → statement M
run_right_spec = tie.close (tie.spec (λ c. search rules) (λ c κs. search rules) (λ c. search rules) (λ c κs. search rules) returns)
