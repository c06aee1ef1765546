-- `nbr::put_unit` meets its contract: a unit that is not present is written as missing, and one that is is copied. Assumes nothing.
use Prim.Native.Nat.{ℕ, ◌+◌, ◌*◌, ◌≤◌, ◌<◌}
use mathlib.Core.Path.{◌≡◌, sym, ◌∙◌}
use mathlib.Core.Bool.{true, false}
use native.Mathlib.Omega.{arith}
use borrow.Author.Rules.{rules}
use lib.ListN.{length}
use Rattle.laws.proofs.Whole.{row_same}
use Rattle.nbr.specs.Arms.{present_in}
use Rattle.nbr.proofs.Arms.{unit_missing, unit_sample, unit_in, unit_few}
use Rattle.nbr.proofs.put_unit.Statement.{statement}
use Rattle.nbr.proofs.put_unit.Tie as tie

absent : (c : tie.Then-not-present) → let a = c.args in present_in a.arm a.constrained a.words.now a.i ≡ false
absent c = sym c.present.ensures ∙ c.if-not-present.true

there : (c : tie.Else-not-present) → let a = c.args in present_in a.arm a.constrained a.words.now a.i ≡ true
there c = sym c.present.ensures ∙ c.if-not-present.false

-- sample j of a unit that is present is within the plane
inside : (c : tie.Else-not-present) (j : ℕ) → let a = c.args in j < a.n → a.arm.from + a.i * a.n * a.arm.step + j * a.arm.step < length a.plane.now
inside c j p = unit_in _ _ _ _ _ _ j p c.requires.0 (there c)

first : (c : tie.Else-not-present) → let a = c.args in a.arm.from + a.i * a.n * a.arm.step + 0 * a.arm.step < length a.plane.now
first c = inside c 0 c.requires.0.some

few : (c : tie.Else-not-present) → let a = c.args in a.i * a.n ≤ 4096
few c = unit_few _ _ _ _ _ _ c.requires.0 (there c)

present_requires : tie.Need-present-requires
present_requires c κs = c.requires.0.words_in c.args.i

returns : tie.Need-returns-then-not-present
returns c =
    c.put_missing.ensures ∙ row_same _ _ _ _ _ _ (λ j p. sym (unit_missing _ _ _ _ _ _ j p (absent c.before.before.before.before)))

mul_from : tie.Need-overflow_mul-from
mul_from c = omega (arith, few c)

mul_from_2 : tie.Need-overflow_mul-from-2
mul_from_2 c = omega (arith, first c.before)

add_from : tie.Need-overflow_add-from
add_from c = omega (arith, first c.before.before)

put_samples_requires : tie.Need-put_samples-requires
put_samples_requires c κs =
    (omega (arith, c.requires.1), inside c.before.before.before)

returns-2 : tie.Need-returns
returns-2 c =
    c.put_samples.ensures ∙ row_same _ _ _ _ _ _ (λ j p. sym (unit_sample _ _ _ _ _ _ j p (there c.before.before.before.before.before.before)))

pub put_unit_spec : {M : Type 1} → statement M
put_unit_spec =
    tie.close
    (tie.spec
    present_requires
    (λ c κs. search rules)
    (λ c. search rules)
    returns
    mul_from
    mul_from_2
    add_from
    put_samples_requires
    (λ c. search rules)
    returns-2)
