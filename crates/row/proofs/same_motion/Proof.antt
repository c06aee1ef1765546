-- `row::same_motion` meets its contract: four comparisons of numbers. Assumes nothing.
use Prim.Native.Nat.{◌<◌}
use mathlib.Core.Path.{◌≡◌}
use borrow.Author.Rules.{rules}
use lib.IntN.{ℤ}
use lib.Signed.{mag}
use mir.Syntax.{w16}
use mir.Val.{to_z, of_z}
use Rattle.laws.proofs.Widths.{back}
use Rattle.row.specs.Between.{same_motion}
use Rattle.row.proofs.same_motion.Statement.{statement}
use Rattle.row.proofs.same_motion.Tie as tie

number : {z : ℤ} → mag z < 32768 → to_z w16 (of_z w16 z) ≡ z
number {z} h = back w16 z (record { sfits = h })

returns : tie.Need-returns
unfolding same_motion
returns c =
    rw (
      c.same_number.ensures,
      number c.same_number-arg-1.given,
      number c.same_number-arg-2-1.given,
      c.same_number-2.ensures,
      number c.same_number-arg-3-1.given,
      number c.same_number-arg-4-1.given,
      c.same_number-3.ensures,
      number c.same_number-arg-5-1.given,
      number c.same_number-arg-6-1.given,
      c.same_number-4.ensures,
      number c.same_number-arg-7-1.given,
      number c.same_number-arg-8-1.given,
    )

pub same_motion_spec : {M : Type 1} → statement M
same_motion_spec =
    tie.close
    (tie.spec (λ c. search rules) (λ c. search rules)
    (λ c. search rules) (λ c. search rules) (λ c. search rules) (λ c. search rules) (λ c κs. search rules)
    (λ c. search rules) (λ c. search rules) (λ c. search rules) (λ c. search rules) (λ c. search rules) (λ c. search rules) (λ c κs. search rules)
    (λ c. search rules) (λ c. search rules) (λ c. search rules) (λ c. search rules) (λ c. search rules) (λ c. search rules) (λ c κs. search rules)
    (λ c. search rules) (λ c. search rules) (λ c. search rules) (λ c. search rules) (λ c. search rules) (λ c. search rules) (λ c κs. search rules) returns)
