-- The first I, of its form, or not. Assumes nothing.
use Rattle.y4m_rules.specs.Header.{with_i}
use Rattle.y4m_header.proofs.Forms.{other_is, told_first, told_not}
use Rattle.y4m_header.proofs.words.told_i.Goals as goal

pub returns-then-said-ne : goal.returns-then-said-ne
returns-then-said-ne c = let a = c.args in told_not a.said.i _ (with_i a.said) _ (other_is _ _ _ _ c.as_slice.ensures c.ne.ensures) c.if-said-ne.true

pub returns : goal.returns
returns c = let a = c.args in told_first a.said.i _ (with_i a.said) _ (other_is _ _ _ _ c.as_slice.ensures c.ne.ensures) c.if-said-ne.false
