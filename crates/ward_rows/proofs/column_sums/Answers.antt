-- `ward_rows::column_sums`: a turn adds one column more.
use Rattle.std.proofs.Common.{ℕ, ap, ◌∙◌, arith, rules}
use Rattle.laws.specs.Index.{tabulate}
use Rattle.laws.proofs.Fill.{upto_none, upto_more, upto_all}
use Rattle.ward_rows.specs.Samples.{column_at}
use Rattle.ward_rows.proofs.column_sums.Goals as goal

pub loop-i-init : goal.loop-i-init
loop-i-init c = (search rules, upto_none _ _ _)

pub screen-requires : goal.screen-requires
screen-requires c = c.requires.0 c.loop-i.i (omega arith)

pub screen-requires-in-loop-i : goal.screen-requires-in-loop-i
screen-requires-in-loop-i c = c.requires.1 c.loop-i.i (omega arith)

pub loop-i-preserved : goal.loop-i-preserved
loop-i-preserved c =
    let l = c.loop-i in
    (l.invariant.0, upto_more 0 _ _ _ l.i _ (omega arith) (cc (c.screen.ensures.0, c.screen-in-loop-i.ensures.0)) l.invariant.1)

pub returns : goal.returns
returns c =
    let a = c.args in
    let l = c.loop-i in
    upto_all 0 _ _ _ l.i (omega arith) l.invariant.1 ∙ ap (λ (n : ℕ). tabulate n (column_at a.p.now a.upper a.lower)) l.invariant.0
