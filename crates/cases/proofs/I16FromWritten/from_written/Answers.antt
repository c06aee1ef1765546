-- What i16 reads is a number of its width.
use Rattle.std.proofs.Common.{arith}
use mir.Syntax.{w16}
use Rattle.laws.proofs.Widths.{back}
use Rattle.cases.proofs.Signs.{signed_small, signed_wide}
use Rattle.cases.proofs.I16FromWritten.from_written.Goals as goal

pub overflow_cast-result : goal.overflow_cast-result
overflow_cast-result c =
    rw (signed_wide 32768 c.args.n _ (omega arith) (omega arith) c.signed.ensures, c.signed.ensures) (record { sfits = signed_small 32768 c.args.n (omega arith) })

pub returns : goal.returns
returns c =
    rw (signed_wide 32768 c.args.n _ (omega arith) (omega arith) c.signed.ensures, c.signed.ensures) (back w16 _ (record { sfits = signed_small 32768 c.args.n (omega arith) }))
