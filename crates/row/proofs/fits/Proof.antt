-- `row::fits` meets its contract: a sum that is not made. Assumes nothing.
use Prim.Native.Nat.{◌+◌}
use mathlib.Core.Path.{sym}
use native.Mathlib.Omega.{arith}
use borrow.Author.Tests.{lt-leb}
use Rattle.row.proofs.Runs.{fits_test}
use Rattle.row.proofs.fits.Statement.{statement}
use Rattle.row.proofs.fits.Tie as tie

returns : tie.Need-returns-then-units-n
returns c = let a = c.args in sym (lt-leb (a.k + a.n) a.units (omega (arith, c.if-units-n.true)))

returns-2 : tie.Need-returns
returns-2 c = let a = c.args in fits_test a.units a.k a.n (omega (arith, c.if-units-n.false))

pub fits_spec : {M : Type 1} → statement M
fits_spec = tie.close (tie.spec returns returns-2)
