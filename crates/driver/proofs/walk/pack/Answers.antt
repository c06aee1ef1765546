-- `driver::walk::pack`: a turn packs one leaf more.
use Rattle.std.proofs.Common.{arith, ◌≡◌}
use Rattle.driver.proofs.Packing.{packed_none, packed_more}
use Rattle.driver.proofs.walk.pack.Goals as goal

pub loop-j-init : goal.loop-j-init
loop-j-init c = packed_none _ _ c.requires.1

pub packed_leaf-requires : goal.packed_leaf-requires
packed_leaf-requires c = c.requires.0.most _ c.loop-j-test.true

pub loop-j-preserved : goal.loop-j-preserved
loop-j-preserved c = packed_more _ _ c.loop-j.j _ (omega (arith, c.requires.0.few, c.loop-j-test.true)) c.packed_leaf.ensures c.loop-j.invariant

pub returns : goal.returns
returns c =
    let l = c.loop-j in
    let e : l.j ≡ c.args.n = omega (arith, c.loop-j-test.false) in
    rw (← e) l.invariant
