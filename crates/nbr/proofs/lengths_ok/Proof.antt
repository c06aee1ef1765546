-- `nbr::lengths_ok` meets its contract: the products fit, and the code is the list of tests. Assumes nothing.
use Prim.Native.Nat.{◌*◌, ◌≤◌}
use native.Mathlib.Nat.{mul-le-mul}
use native.Mathlib.Omega.{arith}
use borrow.Author.Rules.{rules}
use Rattle.nbr.specs.Gather.{lengths_ok}
use Rattle.def.proofs.Units.{few_units}
use Rattle.nbr.proofs.Sides.{scaled_le}
use Rattle.nbr.proofs.lengths_ok.Statement.{statement}
use Rattle.nbr.proofs.lengths_ok.Tie as tie

mul_result : tie.Need-overflow_mul-result
mul_result c =
    let p : c.in_component-w.result ≤ 4096 = rw c.in_component-w.ensures (scaled_le c.args.block.component _ _ c.requires.0) in
    let q : c.in_component-h.result ≤ 4096 = rw c.in_component-h.ensures (scaled_le c.args.block.component _ _ c.requires.1) in
    let r : c.in_component-w.result * c.in_component-h.result ≤ 4096 * 4096 = mul-le-mul p q in
    omega arith

mul_result_2 : tie.Need-overflow_mul-result-2
mul_result_2 c =
    omega (arith, few_units c.args.block.w c.args.block.h c.requires.0 c.requires.1)

returns : tie.Need-returns
unfolding lengths_ok
returns c = rw (c.in_component-w.ensures, c.in_component-h.ensures)

pub lengths_ok_spec : {M : Type 1} → statement M
lengths_ok_spec = tie.close (tie.spec (λ c κs. search rules) (λ c κs. search rules) mul_result mul_result_2 returns)
