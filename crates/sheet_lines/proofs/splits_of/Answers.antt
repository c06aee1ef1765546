-- No key, or digits after it that are 0 and 1 or not. Assumes nothing.
use Rattle.std.proofs.Common.{sym, ◌∙◌}
use Rattle.sheet_lines.specs.Words.{splits_key}
use Rattle.sheet_lines.proofs.Forms.{no_key, after_key, splits_no_key, splits_is, splits_no}
use Rattle.sheet_lines.proofs.splits_of.Goals as goal

pub returns-in_err-digits : goal.returns-in_err-digits
returns-in_err-digits c = rw c.from_residual.ensures (splits_no_key _ (no_key splits_key _ _ c.as_slice.ensures c.in_err-digits.ensures.cases))

pub returns-then-all_between : goal.returns-then-all_between
returns-then-all_between c =
    let k = after_key splits_key _ _ _ c.as_slice.ensures c.in_ok-digits.ensures.cases.0 c.in_ok-digits.ensures.cases.1 in
    splits_is _ k.0 _ k.1 (sym c.all_between.ensures ∙ c.if-all_between.true)

pub returns-else-all_between : goal.returns-else-all_between
returns-else-all_between c =
    let k = after_key splits_key _ _ _ c.as_slice.ensures c.in_ok-digits.ensures.cases.0 c.in_ok-digits.ensures.cases.1 in
    splits_no _ k.0 _ k.1 (sym c.all_between.ensures ∙ c.if-all_between.false)
