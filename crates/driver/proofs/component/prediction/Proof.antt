-- `driver::component::prediction` meets its contract: the arm of a mode, and that of the lent prediction. Assumes nothing.
use native.Mathlib.Omega.{arith}
use borrow.Author.Rules.{rules}
use borrow.Author.Tests.{le-leb, lt-leb}
use Rattle.driver_rules.specs.Steps.{prediction_of}
use Rattle.driver.proofs.component.prediction.Statement.{statement}
use Rattle.driver.proofs.component.prediction.Tie as tie

copy_lent_requires : tie.Need-copy_lent-requires
copy_lent_requires c κs =
    (record { size = c.requires.0.size; block = c.requires.0.block }, c.requires.1, c.requires.2)

returns : tie.Need-returns-then-kind-le4
unfolding prediction_of
returns c = rw (le-leb c.args.kind 4
    (omega (arith, c.if-kind-le4.true))) c.predict.ensures

returns-2 : tie.Need-returns
unfolding prediction_of
returns-2 c = rw (lt-leb c.args.kind 4
    (omega (arith, c.if-kind-le4.false))) c.copy_lent.ensures

pub prediction_spec : {M : Type 1} → statement M
prediction_spec =
    tie.close (tie.spec (λ c κs. search rules) (λ c. search rules) (λ c. search rules) returns copy_lent_requires (λ c. search rules) returns-2)
