-- The first C, of its form, or not. Assumes nothing.
use Rattle.y4m_rules.specs.Header.{with_c}
use Rattle.y4m_header.proofs.Forms.{other_is, told_first, told_not}
use Rattle.y4m_header.proofs.words.told_c.Goals as goal

pub returns-then-said-ne : goal.returns-then-said-ne
returns-then-said-ne c = let a = c.args in told_not a.said.c _ (with_c a.said) _ (other_is _ _ _ _ c.as_slice.ensures c.ne.ensures) c.if-said-ne.true

pub returns : goal.returns
returns c = let a = c.args in told_first a.said.c _ (with_c a.said) _ (other_is _ _ _ _ c.as_slice.ensures c.ne.ensures) c.if-said-ne.false
