-- The line of the edge is one of two, or none. Assumes nothing.
use Rattle.std.proofs.Common.{sym, ◌∙◌}
use Rattle.sheet_lines.specs.Words.{own_edge, source_edge}
use Rattle.sheet_lines.proofs.Forms.{same_is, edge_old, edge_own, edge_no}
use Rattle.sheet_lines.proofs.edge_of.Goals as goal

pub returns-then-eq : goal.returns-then-eq
returns-then-eq c = edge_old _ (sym (same_is source_edge _ _ _ c.as_slice.ensures c.eq.ensures) ∙ c.if-eq.true)

pub returns-then-eq-2 : goal.returns-then-eq-2
returns-then-eq-2 c =
    edge_own _ (sym (same_is source_edge _ _ _ c.as_slice.ensures c.eq.ensures) ∙ c.if-eq.false)
    (sym (same_is own_edge _ _ _ c.as_slice-2.ensures c.eq-2.ensures) ∙ c.if-eq-2.true)

pub returns : goal.returns
returns c =
    edge_no _ (sym (same_is source_edge _ _ _ c.as_slice.ensures c.eq.ensures) ∙ c.if-eq.false)
    (sym (same_is own_edge _ _ _ c.as_slice-2.ensures c.eq-2.ensures) ∙ c.if-eq-2.false)
