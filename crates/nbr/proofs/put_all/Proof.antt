-- `nbr::put_all` meets its contract: the three arms are written one after the other. Assumes nothing.
use native.Mathlib.Omega.{arith}
use borrow.Author.Rules.{rules}
use Rattle.nbr.proofs.Borders.{border_written}
use Rattle.nbr.proofs.put_all.Statement.{statement}
use Rattle.nbr.proofs.put_all.Tie as tie

mul_at : tie.Need-overflow_mul-at
mul_at c = omega (arith, c.requires.1)

put_arm_requires : tie.Need-put_arm-requires
put_arm_requires c κs =
    let p = c.requires in
    (p.0.left_within, omega (arith, p.1), p.0.sizes)

put_units_requires : tie.Need-put_units-requires
put_units_requires c κs =
    let p = c.requires in
    let left = c.put_arm.auto.run in
    (p.0.corner_within, omega (arith, p.1, left))

add_put_arm : tie.Need-overflow_add-at
add_put_arm c = omega (arith, c.requires.1)

put_arm_requires_2 : tie.Need-put_arm-requires-2
put_arm_requires_2 c κs =
    let p = c.requires in
    let left = c.put_arm.auto.run in
    let corner = c.put_units.auto.run in
    (p.0.up_within, omega (arith, p.1, left, corner), p.0.sizes)

returns : tie.Need-returns
returns c =
    let left = c.put_arm.ensures in
    border_written _ _ _ _ _ _ _ _ left c.put_units.ensures c.put_arm-2.ensures

pub put_all_spec : {M : Type 1} → statement M
put_all_spec = tie.close (tie.spec mul_at put_arm_requires put_units_requires add_put_arm put_arm_requires_2 (λ c. search rules) returns)
