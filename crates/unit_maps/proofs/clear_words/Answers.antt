-- `unit_maps::clear_words`: a turn clears one word more.
use Rattle.std.proofs.Common.{arith, refl}
use Rattle.laws.proofs.Fill.{upto_none, upto_more, upto_all}
use Rattle.unit_maps.proofs.clear_words.Goals as goal

pub loop-word-init : goal.loop-word-init
loop-word-init c = upto_none _ _ _

pub loop-word-preserved : goal.loop-word-preserved
loop-word-preserved c = upto_more _ _ _ _ c.loop-word.word-index _ (omega (arith, c.loop-word.invariant.long)) refl c.loop-word.invariant

pub returns : goal.returns
returns c = upto_all _ _ _ _ c.loop-word.word-index (omega (arith, c.loop-word.invariant.long)) c.loop-word.invariant
