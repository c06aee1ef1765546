-- `nbr::samples_pass` meets its contract: where the samples near the block pass, so does the run; and else the three arms are joined. Assumes nothing.
use native.Mathlib.Omega.{arith}
use borrow.Author.Tests.{le-leb}
use Rattle.nbr.proofs.Borders.{near_of, near_joined, units_joined}
use Rattle.nbr.proofs.samples_pass.Statement.{statement}
use Rattle.nbr.proofs.samples_pass.Tie as tie

join_border_requires : tie.Need-join_border-requires
join_border_requires c κs = near_of _ _ _ c.requires.2

returns : tie.Need-returns-then-join_border-le1023
returns c =
    let j = c.join_border in
    near_joined _ _ _ _ _ c.requires.0 c.requires.1 c.requires.2 (j.ensures (le-leb j.result 1023 (omega (arith, c.if-join_border-le1023.true))))

returns-2 : tie.Need-returns
returns-2 c =
    units_joined _ _ _ _ _ c.requires.0 c.requires.1 c.join_units.result c.join_units-2.result c.join_units-3.result
    c.join_units.ensures c.join_units-2.ensures c.join_units-3.ensures

join_units_requires : tie.Need-join_units-requires
join_units_requires c κs = c.requires.2.left_within

join_units_requires_2 : tie.Need-join_units-requires-2
join_units_requires_2 c κs = c.requires.2.corner_within

join_units_requires_3 : tie.Need-join_units-requires-3
join_units_requires_3 c κs = c.requires.2.up_within

pub samples_pass_spec : {M : Type 1} → statement M
samples_pass_spec =
    tie.close (tie.spec join_border_requires returns join_units_requires join_units_requires_2 join_units_requires_3 returns-2)
