-- `mend::copy`: a turn copies one byte more.
use Rattle.std.proofs.Common.{arith, refl, sym, ◌∙◌}
use Rattle.mend.proofs.Lists.{copy_more, copy_all}
use Rattle.mend.proofs.copy.Goals as goal

pub loop-i-init : goal.loop-i-init
loop-i-init c = refl

pub loop-i-preserved : goal.loop-i-preserved
loop-i-preserved c =
    copy_more c.args.bytes.now c.loop-i.out c.loop-i.i c.loop-i-test.true (omega (arith, c.loop-i-test.true, c.loop-i.auto.out, c.requires)) c.loop-i.invariant

pub returns : goal.returns
returns c = copy_all c.args.bytes.now c.loop-i.out c.loop-i.i (c.loop-i.auto.out ∙ sym c.requires) c.loop-i-test.false c.loop-i.invariant
