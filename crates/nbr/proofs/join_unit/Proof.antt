-- `nbr::join_unit` meets its contract: a unit that is not present joins nothing. Assumes nothing.
use Prim.Native.Nat.{ℕ, ◌+◌, ◌*◌, ◌≤◌, ◌<◌}
use mathlib.Core.Path.{◌≡◌, sym, ap, ◌∙◌}
use mathlib.Core.Bool.{true, false}
use native.Mathlib.Omega.{arith}
use lib.ListN.{length}
use Rattle.laws.proofs.Parts.{scan_alike}
use Rattle.laws.proofs.ScanAll.{scan_pass}
use Rattle.samples.specs.Samples.{sample_ok}
use Rattle.nbr.specs.Arms.{present_in}
use Rattle.nbr.proofs.Arms.{unit_missing, unit_sample, unit_in, unit_few}
use Rattle.nbr.proofs.join_unit.Statement.{statement}
use Rattle.nbr.proofs.join_unit.Tie as tie

absent : (c : tie.Then-not-present) → let a = c.args in present_in a.arm a.constrained a.words.now a.i ≡ false
absent c = sym c.present.ensures ∙ c.if-not-present.true

there : (c : tie.Else-not-present) → let a = c.args in present_in a.arm a.constrained a.words.now a.i ≡ true
there c = sym c.present.ensures ∙ c.if-not-present.false

-- sample j of a unit that is present is within the plane
inside : (c : tie.Else-not-present) (j : ℕ) → let a = c.args in j < a.n → a.arm.from + a.i * a.n * a.arm.step + j * a.arm.step < length a.plane.now
inside c j p = unit_in _ _ _ _ _ _ j p c.requires (there c)

first : (c : tie.Else-not-present) → let a = c.args in a.arm.from + a.i * a.n * a.arm.step + 0 * a.arm.step < length a.plane.now
first c = inside c 0 c.requires.some

few : (c : tie.Else-not-present) → let a = c.args in a.i * a.n ≤ 4096
few c = unit_few _ _ _ _ _ _ c.requires (there c)

present_requires : tie.Need-present-requires
present_requires c κs = c.requires.words_in c.args.i

returns : tie.Need-returns-then-not-present
returns c = sym (scan_pass _ _ (λ j p. ap sample_ok (unit_missing _ _ _ _ _ _ j p (absent c))))

mul_from : tie.Need-overflow_mul-from
mul_from c = omega (arith, few c)

mul_from_2 : tie.Need-overflow_mul-from-2
mul_from_2 c = omega (arith, first c.before)

add_from : tie.Need-overflow_add-from
add_from c = omega (arith, first c.before.before)

join_samples_requires : tie.Need-join_samples-requires
join_samples_requires c κs = inside c.before.before

returns-2 : tie.Need-returns
returns-2 c =
    c.join_samples.ensures ∙ scan_alike _ _ _ (λ j p. ap sample_ok (sym (unit_sample _ _ _ _ _ _ j p (there c.before.before.before))))

pub join_unit_spec : {M : Type 1} → statement M
join_unit_spec = tie.close (tie.spec present_requires returns mul_from mul_from_2 add_from join_samples_requires returns-2)
