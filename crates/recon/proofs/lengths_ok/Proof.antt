-- `recon::lengths_ok` meets its contract: the code is the list of tests. Assumes nothing.
use mathlib.Core.Path.{refl}
use native.Mathlib.Nat.{mul-le-mul}
use native.Mathlib.Omega.{arith}
use Rattle.recon.specs.Recon.{lengths_ok}
use Rattle.recon.proofs.lengths_ok.Statement.{statement}
use Rattle.recon.proofs.lengths_ok.Tie as tie

mul_n : tie.Need-overflow_mul-n
mul_n c = omega (arith, mul-le-mul c.requires c.requires)

returns : tie.Need-returns
unfolding lengths_ok
returns c = refl

pub lengths_ok_spec : {M : Type 1} → statement M
lengths_ok_spec = tie.close (tie.spec mul_n returns)
