-- `decoder_c::neighbours::copy`: a turn copies one byte more.
use Rattle.std.proofs.Common.{arith, refl, sym, ◌∙◌}
use Rattle.mend.proofs.Lists.{copy_more, copy_all}
use Rattle.decoder_c.proofs.neighbours.copy.Goals as goal

pub loop-k-init : goal.loop-k-init
loop-k-init c = refl

pub loop-k-preserved : goal.loop-k-preserved
loop-k-preserved c =
    copy_more c.args.part.now c.loop-k.out c.loop-k.k c.loop-k-test.true (omega (arith, c.loop-k-test.true, c.loop-k.auto.out, c.requires)) c.loop-k.invariant

pub returns : goal.returns
returns c = copy_all c.args.part.now c.loop-k.out c.loop-k.k (c.loop-k.auto.out ∙ sym c.requires) c.loop-k-test.false c.loop-k.invariant
