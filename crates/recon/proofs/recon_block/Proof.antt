-- `recon::recon_block` meets its contract: a side of 4 or of 2 that is known is the block's. Assumes nothing.
use native.Mathlib.Omega.{arith}
use borrow.Author.Rules.{rules}
use Rattle.recon.proofs.recon_block.Statement.{statement}
use Rattle.recon.proofs.recon_block.Tie as tie

recon_small_requires : tie.Need-recon_small-requires
recon_small_requires c κs = (rw c.if-n-eq4.true at c.requires, omega arith)

recon_small_requires_2 : tie.Need-recon_small-requires-then-n-eq2
recon_small_requires_2 c κs = (rw c.if-n-eq2.true at c.requires, omega arith)

returns : tie.Need-returns-then-n-eq4
returns c = rw c.if-n-eq4.true c.recon_small.ensures

returns-2 : tie.Need-returns-then-n-eq2
returns-2 c = rw c.if-n-eq2.true c.recon_small-then-n-eq2.ensures

pub recon_block_spec : {M : Type 1} → statement M
recon_block_spec =
    tie.close
    (tie.spec recon_small_requires recon_small_requires_2 (λ c κs. search rules) (λ c. search rules) returns (λ c. search rules) returns-2
    (λ c. search rules) (λ c. search rules))
