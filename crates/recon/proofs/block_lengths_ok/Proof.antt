-- `recon::block_lengths_ok` meets its contract: the list of tests, at the side in the component. Assumes nothing.
use native.Mathlib.Nat.{mul-le-mul}
use native.Mathlib.Omega.{arith}
use borrow.Author.Rules.{rules}
use Rattle.recon.specs.Plane.{block_lengths_ok}
use Rattle.recon.proofs.Lengths.{no_longer}
use Rattle.recon.proofs.block_lengths_ok.Statement.{statement}
use Rattle.recon.proofs.block_lengths_ok.Tie as tie

mul_long : tie.Need-overflow_mul-long
mul_long c =
    let n = no_longer _ _ _ _ c.in_component-n.ensures c.requires in
    omega (arith, mul-le-mul n n)

returns : tie.Need-returns
unfolding block_lengths_ok
returns c = rw c.in_component-n.ensures

pub block_lengths_ok_spec : {M : Type 1} → statement M
block_lengths_ok_spec = tie.close (tie.spec (λ c κs. search rules) mul_long returns)
