-- No key, or what follows it as a number. Assumes nothing.
use Rattle.std.proofs.Common.{refl}
use Rattle.sheet_lines.proofs.Forms.{no_key, after_key, number_no_key, number_is}
use Rattle.sheet_lines.proofs.number_of.Goals as goal

pub returns-in_err-digits : goal.returns-in_err-digits
returns-in_err-digits c = rw c.from_residual.ensures (number_no_key _ _ (no_key _ _ _ refl c.in_err-digits.ensures.cases))

pub returns : goal.returns
returns c =
    let k = after_key _ _ _ _ refl c.in_ok-digits.ensures.cases.0 c.in_ok-digits.ensures.cases.1 in
    number_is _ _ k.0 _ _ k.1 c.number_in.ensures
