-- `leaf_record::mode_of` meets its contract: a mode's own number, and else 255. Assumes nothing.
use native.Mathlib.Omega.{arith}
use borrow.Author.Tests.{le-leb, lt-leb}
use Rattle.leaf_record.proofs.mode_of.Statement.{statement}
use Rattle.leaf_record.proofs.mode_of.Tie as tie

returns : tie.Need-returns-then-kind-le4
returns c = rw (le-leb c.args.kind 4 (omega (arith, c.if-kind-le4.true)))

returns-2 : tie.Need-returns
returns-2 c = rw (lt-leb c.args.kind 4 (omega (arith, c.if-kind-le4.false)))

pub mode_of_spec : {M : Type 1} → statement M
mode_of_spec = tie.close (tie.spec returns returns-2)
