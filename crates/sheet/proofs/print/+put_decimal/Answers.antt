-- The last digit alone, or what its tenth has and the last digit. Assumes nothing.
use native.Mathlib.Omega.{arith}
use Prim.Native.Nat.{◌/◌}
use Rattle.edges.proofs.Puts.{put_as, put_then}
use Rattle.sheet.proofs.Puts.{put_byte, decimal_one, decimal_more, decimal_three}
use Rattle.sheet.proofs.print.+put_decimal.Goals as goal

pub returns-then-n-lt10 : goal.returns-then-n-lt10
returns-then-n-lt10 t c = put_as (decimal_one _ c.if-n-lt10.true) (put_byte _ _ _)

pub bounds-out-next : goal.bounds-out-next
bounds-out-next t c =
    let d = c.put_decimal-next in
    omega (arith, d.ensures.count, d.auto.out, c.requires.1, decimal_three (c.args.n / 10) (omega (arith, c.requires.0)))

pub overflow_add-result-2 : goal.overflow_add-result-2
overflow_add-result-2 t c =
    let d = c.put_decimal-next in
    omega (arith, d.ensures.count, d.auto.out, c.requires.1, decimal_three (c.args.n / 10) (omega (arith, c.requires.0)))

pub returns : goal.returns
returns t c = put_as (decimal_more _ c.requires.0 (omega arith)) (put_then c.put_decimal-next.ensures (put_byte _ _ _))
