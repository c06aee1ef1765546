-- `ward_rows::put_singly`: a turn stores one sample more.
use Rattle.std.proofs.Common.{arith, ◌*◌}
use Rattle.laws.proofs.Planes.{rowed_none, rowed_more, rowed_all}
use Rattle.ward_rows.proofs.Stores.{small_part}
use Rattle.ward_rows.proofs.put_singly.Goals as goal

pub loop-i-init : goal.loop-i-init
loop-i-init c = rowed_none _ _ _ _

pub preview_sample-requires : goal.preview_sample-requires
preview_sample-requires c =
    let i = c.loop-i.i in
    (small_part c.args.p.now _ _ (2 * i) 2 (omega arith) c.requires.0, small_part c.args.p.now _ _ (2 * i) 2 (omega arith) c.requires.1, omega arith, omega arith)

pub loop-i-preserved : goal.loop-i-preserved
loop-i-preserved c = rowed_more _ _ _ _ _ c.loop-i.i _ (omega arith) c.preview_sample.ensures c.loop-i.invariant

pub returns : goal.returns
returns c = rowed_all _ _ _ _ _ _ c.loop-i.i (omega arith) c.loop-i.invariant
