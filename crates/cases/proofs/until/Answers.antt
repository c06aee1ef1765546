-- `cases::until` stops at the first byte that is looked for, or at the end.
use Rattle.std.proofs.Common.{◌≡◌, length, sym, ◌∙◌, arith}
use Rattle.cases.proofs.Steps.{first_here, first_on, first_end}
use Rattle.cases.proofs.until.Goals as goal

pub returns-then-number_byte : goal.returns-then-number_byte
returns-then-number_byte c =
    let l = c.loop-i in
    (sym (l.invariant ∙ first_here _ _ _ l.i (omega arith) (sym c.number_byte.ensures ∙ c.if-number_byte.true)), omega arith, omega arith)

pub loop-i-preserved : goal.loop-i-preserved
loop-i-preserved c =
    let l = c.loop-i in
    l.invariant ∙ first_on _ _ _ l.i (omega arith) (sym c.number_byte.ensures ∙ c.if-number_byte.false)

pub returns : goal.returns
returns c =
    let l = c.loop-i in
    let e : length c.args.s.now ≡ l.i = omega (arith, l.auto.i-end) in
    (e ∙ sym (l.invariant ∙ first_end _ _ _ l.i (omega arith)), omega arith, omega arith)
