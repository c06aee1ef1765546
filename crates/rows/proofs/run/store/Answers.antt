-- `rows::run::store`: a turn stores one byte more.
use Rattle.std.proofs.Common.{arith}
use Rattle.rows_rules.proofs.Runs.{stored_none, stored_more}
use Rattle.rows.proofs.run.store.Goals as goal

pub loop-j-init : goal.loop-j-init
loop-j-init c = stored_none _ _ _

pub loop-j-preserved : goal.loop-j-preserved
loop-j-preserved c = let l = c.loop-j in stored_more _ _ l.j _ _ (omega (arith, l.invariant.long, c.loop-j-test.true, c.requires)) l.invariant

pub returns : goal.returns
returns c = let l = c.loop-j in record { long = l.invariant.long; kept = l.invariant.kept; new = λ i h. l.invariant.new i (omega (arith, h, c.loop-j-test.false)) }
