-- The last digit alone, or what its tenth has and the last digit. Assumes nothing.
use native.Mathlib.Omega.{arith}
use Prim.Native.Nat.{◌/◌}
use Rattle.edges.proofs.Puts.{put_as, put_then}
use Rattle.sheet.proofs.Puts.{put_byte}
use Rattle.y4m_rules.proofs.Printing.{number_one, number_more, number_four}
use Rattle.y4m_header_out.proofs.print.+put_number.Goals as goal

pub returns-then-n-lt10 : goal.returns-then-n-lt10
returns-then-n-lt10 t c = (put_as (number_one _ c.if-n-lt10.true) (put_byte _ _ _), omega arith)

pub bounds-out-next : goal.bounds-out-next
bounds-out-next t c =
    let d = c.put_number-next in
    omega (arith, d.ensures.0.count, d.auto.out, c.requires.1, number_four (c.args.n / 10) (omega (arith, c.requires.0)))

pub overflow_add-result-2 : goal.overflow_add-result-2
overflow_add-result-2 t c =
    let d = c.put_number-next in
    omega (arith, d.ensures.0.count, d.auto.out, c.requires.1, number_four (c.args.n / 10) (omega (arith, c.requires.0)))

pub returns : goal.returns
returns t c =
    let d = c.put_number-next in (
      put_as (number_more _ c.requires.0 (omega arith)) (put_then d.ensures.0 (put_byte _ _ _)),
      omega (arith, d.ensures.0.count, number_four (c.args.n / 10) (omega (arith, c.requires.0))),
    )
