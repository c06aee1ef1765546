-- `ward_rows::put_sums`: a turn stores one sample more.
use Rattle.std.proofs.Common.{◌+◌, ◌*◌, refl, arith}
use Rattle.laws.proofs.Planes.{rowed_none, rowed_more, rowed_all}
use Rattle.ward_rows.proofs.put_sums.Goals as goal

pub loop-i-init : goal.loop-i-init
loop-i-init c = rowed_none _ _ _ _

pub overflow_add-out-in-loop-i : goal.overflow_add-out-in-loop-i
overflow_add-out-in-loop-i c = let i = c.loop-i.i in omega (arith, c.requires.0 (2 * i), c.requires.0 (2 * i + 1))

pub overflow_add-out-in-loop-i-2 : goal.overflow_add-out-in-loop-i-2
overflow_add-out-in-loop-i-2 c = let i = c.loop-i.i in omega (arith, c.requires.0 (2 * i), c.requires.0 (2 * i + 1))

pub overflow_cast-out : goal.overflow_cast-out
overflow_cast-out c = let i = c.loop-i.i in omega (arith, c.requires.0 (2 * i), c.requires.0 (2 * i + 1))

pub loop-i-preserved : goal.loop-i-preserved
loop-i-preserved c = rowed_more _ _ _ _ _ c.loop-i.i _ (omega arith) refl c.loop-i.invariant

pub returns : goal.returns
returns c = rowed_all _ _ _ _ _ _ c.loop-i.i (omega arith) c.loop-i.invariant
