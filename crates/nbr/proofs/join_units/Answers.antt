-- `nbr::join_units`: a turn joins one unit more.
use Rattle.std.proofs.Common.{arith, ◌≡◌, ◌*◌, ◌∙◌, refl, zero-mul}
use Rattle.laws.proofs.Flat.{next_row}
use Rattle.nbr.specs.Arms.{arm_at}
use Rattle.nbr.proofs.Joins.{join_none, join_part}
use Rattle.nbr.proofs.join_units.Goals as goal

pub loop-i-init : goal.loop-i-init
loop-i-init c = let a = c.args in rw (zero-mul a.n) (join_none (arm_at a.arm a.n a.constrained a.plane.now a.words.now))

pub loop-i-preserved : goal.loop-i-preserved
loop-i-preserved c =
    let a = c.args in
    let i = c.loop-i.i in
    rw (next_row i a.n)
    (join_part (arm_at a.arm a.n a.constrained a.plane.now a.words.now) _ c.loop-i.all (i * a.n) c.join_unit-all.result a.n (λ j p. refl)
    c.join_unit-all.ensures c.loop-i.invariant)

pub returns : goal.returns
returns c = let e : c.loop-i.i ≡ c.args.units = omega arith in c.loop-i.invariant ∙ rw e
