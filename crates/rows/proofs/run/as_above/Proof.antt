-- `rows::run::as_above` meets its contract: the units of the run and the one left of it, compared with those above. Assumes nothing.
use native.Mathlib.Omega.{arith}
use borrow.Author.Rules.{rules}
use Rattle.rows_rules.proofs.Runs.{above_column, above_byte}
use Rattle.rows.proofs.run.as_above.Statement.{statement}
use Rattle.rows.proofs.run.as_above.Tie as tie

sub_top : tie.Need-overflow_sub-top
sub_top c = omega (arith, c.requires.2)

sub_same_units : tie.Need-overflow_sub-k
sub_same_units c =
    let a = c.args in
    omega (arith, c.units_left-left.ensures.0, above_column a.columns a.x.0 a.k c.requires.1.column c.requires.2)

sub_same_units_2 : tie.Need-overflow_sub-top-2
sub_same_units_2 c =
    let a = c.args in
    omega (arith, c.units_left-left.ensures.0, above_column a.columns a.x.0 a.k c.requires.1.column c.requires.2)

add_same_units : tie.Need-overflow_add-n
add_same_units c =
    omega (arith, c.units_left-left.ensures.1, c.requires.0.few, c.requires.1.inside)

same_units_requires : tie.Need-same_units-requires
same_units_requires c κs =
    let a = c.args in
    let h = above_column a.columns a.x.0 a.k c.requires.1.column c.requires.2 in
    let l = c.units_left-left.ensures.0 in
    (c.requires.0.few, c.requires.0.long_motion, c.requires.0.long_refs, omega (arith, l, h, c.requires.1.inside), omega (arith, l, h, c.requires.1.inside, c.requires.2))

returns : tie.Need-returns
returns c e =
    let u = c.units_left-left in
    let a = c.args in
    above_byte a.words.now a.motion.now a.refs.now a.columns a.x.0 a.k a.n u.result c.requires.0.some c.requires.1 c.requires.2 u.ensures.0 u.ensures.2
    (c.same_units.ensures e)

pub as_above_spec : {M : Type 1} → statement M
as_above_spec = tie.close (tie.spec (λ c κs. search rules) sub_top sub_same_units sub_same_units_2 add_same_units same_units_requires returns)
