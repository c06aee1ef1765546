-- `chroma_qp_check::delta_in` meets its contract: a byte that is not below 0 is itself. Assumes nothing.
use mathlib.Core.Path.{sym, ◌∙◌}
use mathlib.Core.Bool.{true, false}
use native.Mathlib.Omega.{arith}
use mir.Syntax.{w8}
use Rattle.laws.proofs.Widths.{back}
use Rattle.chroma_qp_check.proofs.Bytes.{Plain, plain, byte_sign, below_none, all_left}
use Rattle.chroma_qp_check.proofs.delta_in.Statement.{statement}
use Rattle.chroma_qp_check.proofs.delta_in.Tie as tie

is : (c : tie.Else-a-lt0) → Plain c.args.a
is c = plain _ c.ranges.a (byte_sign _ false c.ranges.a c.if-a-lt0.false)

cast_result : tie.Need-overflow_cast-result
cast_result c = rw (back w8 _ c.ranges.a) ((is c).some, record { fits = omega (arith, (is c).most) })

returns : tie.Need-returns-then-a-lt0
returns c = (below_none _ (byte_sign _ true c.ranges.a c.if-a-lt0.true), omega arith)

returns-2 : tie.Need-returns-else-a-lt0
returns-2 c =
    rw (back w8 _ c.ranges.a)
    (sym (is c).is ∙ sym (all_left _ (byte_sign _ false c.ranges.a c.if-a-lt0.false)), (is c).most)

pub delta_in_spec : {M : Type 1} → statement M
delta_in_spec = tie.close (tie.spec cast_result returns returns-2)
