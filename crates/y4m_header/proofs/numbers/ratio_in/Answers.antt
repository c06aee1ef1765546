-- No colon, no number before it, none after it, or both. Assumes nothing.
use Rattle.y4m_header.proofs.Forms.{ratio_cut, ratio_upper_no, ratio_lower_no, ratio_both}
use Rattle.y4m_header.proofs.numbers.ratio_in.Goals as goal

pub returns-then-text-colon : goal.returns-then-text-colon
returns-then-text-colon c = ratio_cut _ _ c.count_before-colon.ensures c.if-text-colon.true

pub returns-in_err-n : goal.returns-in_err-n
returns-in_err-n c = rw c.from_residual.ensures (ratio_upper_no _ _ c.count_before-colon.ensures _ c.term_in.ensures c.in_err-n.was)

pub returns-in_err-m : goal.returns-in_err-m
returns-in_err-m c =
    rw c.from_residual-in_err-m.ensures
    (ratio_lower_no _ _ c.count_before-colon.ensures _ c.term_in.ensures _ c.in_ok-n.was _ c.term_in-2.ensures c.in_err-m.was)

pub returns : goal.returns
returns c =
    ratio_both _ _ c.count_before-colon.ensures _ c.term_in.ensures _ c.in_ok-n.was _
    c.term_in-2.ensures _ c.in_ok-m.was c.if-text-colon.false
