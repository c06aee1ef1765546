-- `rows::run::store`: the first j bytes have been stored.
use Rattle.rows_rules.specs.Runs.{Stored}
use Rattle.rows.proofs.run.store.Given as goal

abbrev pub invariant-loop-j : goal.invariant-loop-j
invariant-loop-j l = Stored l.bytes l.k l.j l.fn.rows l.rows
