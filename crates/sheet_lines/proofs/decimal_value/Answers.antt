-- The digits so far have come to a number below 10 ^ i. Assumes nothing.
use Rattle.std.proofs.Common.{sym, ◌∙◌, arith}
use Rattle.sheet_lines.proofs.Reading.{byte_at, value_on, value_all, value_more}
use Rattle.sheet_lines.proofs.decimal_value.Goals as goal

pub overflow_sub-v : goal.overflow_sub-v
overflow_sub-v c = (byte_at 48 57 c.args.text.now c.loop-b.b-index c.loop-b-test.true c.requires.1).least

pub loop-b-preserved : goal.loop-b-preserved
loop-b-preserved c =
    let l = c.loop-b in
    let s = c.args.text.now in
    let d = byte_at 48 57 s l.b-index c.loop-b-test.true c.requires.1 in
    (value_more l.b-index l.v _ l.invariant.0 (omega (arith, d.most)), l.invariant.1 ∙ value_on s l.b-index l.v c.loop-b-test.true)

pub returns : goal.returns
returns c = let l = c.loop-b in sym (l.invariant.1 ∙ value_all _ l.b-index l.v c.loop-b-test.false)
