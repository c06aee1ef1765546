-- `rows::run::same_units` meets its contract: three tests of a run. Assumes nothing.
use mathlib.Core.Path.{◌≡◌, sym, ◌∙◌}
use native.Mathlib.Omega.{arith}
use Prim.Native.Nat.{ℕ}
use Rattle.rows_rules.specs.Runs.{units_from}
use Rattle.rows.proofs.run.same_units.Statement.{statement}
use Rattle.rows.proofs.run.same_units.Tie as tie

returns : tie.Need-returns-then-not-same_refs
returns c e = absurd (let z : ◌≡◌ {A = ℕ} 0 1 = cc in omega arith)

returns-2 : tie.Need-returns-then-not-same_motion
returns-2 c e = absurd (let z : ◌≡◌ {A = ℕ} 0 1 = cc in omega arith)

returns-3 : tie.Need-returns
unfolding units_from
returns-3 c e =
    rw (sym c.same_refs.ensures ∙ c.if-not-same_refs.false, sym c.same_motion.ensures ∙ c.if-not-same_motion.false, sym c.all_same_flags.ensures ∙ e)

pub same_units_spec : {M : Type 1} → statement M
same_units_spec =
    tie.close
    (tie.spec (λ c. omega arith) (λ c. omega arith) (λ c. omega arith) (λ c κs. (omega arith, omega arith)) returns
    (λ c. omega arith) (λ c. omega arith) (λ c. omega arith) (λ c κs. (omega arith, omega arith)) returns-2 (λ c κs. (omega arith, omega arith)) returns-3)
