-- `nbr::put_units`: a turn writes one unit more.
use Rattle.std.proofs.Common.{arith, ◌≡◌, ℕ, ◌+◌, ◌*◌, ◌≤◌, ◌<◌, refl, ap, zero-mul}
use Rattle.laws.proofs.Flat.{next_row, row_below}
use Rattle.laws.proofs.Parts.{rowed_part}
use Rattle.laws.proofs.Planes.{rowed_none, rowed_all}
use Rattle.nbr.proofs.put_units.Goals as goal

-- the unit of a turn is within the run
room : (i n units to long : ℕ) → i < units → to + units * n ≤ long → to + (i * n + n) ≤ long
room i n units to long p h = omega (arith, row_below i n units (units * n) p (omega arith))

pub loop-i-init : goal.loop-i-init
loop-i-init c = rw (zero-mul c.args.n) (rowed_none _ _ _ _)

pub overflow_mul-i : goal.overflow_mul-i
overflow_mul-i c = let p = room _ _ _ _ _ c.loop-i-test.true c.requires.1 in omega (arith, p)

pub overflow_add-to : goal.overflow_add-to
overflow_add-to c = let p = room _ _ _ _ _ c.loop-i-test.true c.requires.1 in omega (arith, p)

pub put_unit-requires : goal.put_unit-requires
put_unit-requires c = (c.requires.0, omega (arith, room _ _ _ _ _ c.loop-i-test.true c.requires.1, c.loop-i.invariant.long))

pub loop-i-preserved : goal.loop-i-preserved
loop-i-preserved c =
    let a = c.args in
    let i = c.loop-i.i in
    rw (next_row i a.n, c.put_unit.ensures)
    (rowed_part _ _ _ _ _ (i * a.n) a.n _ (omega (arith, room _ _ _ _ _ c.loop-i-test.true c.requires.1)) (λ j p. refl) c.loop-i.invariant)

pub returns : goal.returns
returns c =
    let e : c.loop-i.i ≡ c.args.units = omega arith in
    rowed_all _ _ _ _ _ _ (c.loop-i.i * c.args.n) (ap (λ (k : ℕ). k * c.args.n) e) c.loop-i.invariant
