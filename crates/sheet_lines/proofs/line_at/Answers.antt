-- No newline among the first 4,096 bytes, another form, or the line. Assumes nothing.
use Rattle.std.proofs.Common.{arith}
use Rattle.sheet_lines.proofs.Forms.{line_fits, line_is, field_cut, field_no, field_is}
use Rattle.sheet_lines.proofs.line_at.Goals as goal

pub overflow_add-end : goal.overflow_add-end
overflow_add-end c = let a = c.args in omega (arith, line_is c.args.s.now c.args.at _ c.line_length.ensures, line_fits a.s.now a.at c.requires)

pub slice_bounds-value_of-end : goal.slice_bounds-value_of-end
slice_bounds-value_of-end c = let a = c.args in omega (arith, line_is c.args.s.now c.args.at _ c.line_length.ensures, line_fits a.s.now a.at c.requires)

pub returns-then-not-end-s : goal.returns-then-not-end-s
returns-then-not-end-s c = field_cut _ _ _ _ (line_is c.args.s.now c.args.at _ c.line_length.ensures) c.if-not-end-s.true

pub returns-in_err-value : goal.returns-in_err-value
returns-in_err-value c =
    rw c.from_residual.ensures
    (field_no _ _ _ _ (line_is c.args.s.now c.args.at _ c.line_length.ensures) _ c.if-not-end-s.false c.value_of.ensures c.in_err-value.was)

pub returns : goal.returns
returns c = field_is _ _ _ _ (line_is c.args.s.now c.args.at _ c.line_length.ensures) _ c.if-not-end-s.false c.value_of.ensures _ c.in_ok-value.was
