-- `recon::plane_length_ok` meets its contract: the product of the two lengths in the component. Assumes nothing.
use native.Mathlib.Nat.{mul-le-mul}
use native.Mathlib.Omega.{arith}
use borrow.Author.Rules.{rules}
use Rattle.recon.proofs.Lengths.{no_longer}
use Rattle.recon.proofs.plane_length_ok.Statement.{statement}
use Rattle.recon.proofs.plane_length_ok.Tie as tie

mul_result : tie.Need-overflow_mul-result
mul_result c =
    let s = c.requires in
    omega (arith, mul-le-mul (no_longer _ _ _ _ c.in_component.ensures s.0) (no_longer _ _ _ _ c.in_component-2.ensures s.1))

returns : tie.Need-returns
returns c = rw (c.in_component.ensures, c.in_component-2.ensures)

pub plane_length_ok_spec : {M : Type 1} → statement M
plane_length_ok_spec = tie.close (tie.spec (λ c κs. search rules) (λ c κs. search rules) mul_result returns)
