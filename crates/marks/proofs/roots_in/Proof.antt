-- `marks::roots_in` meets its contract: at most 64 roots stand along a side, so their number fits. Assumes nothing.
use mathlib.Core.Path.{◌≡◌, sym, ap₂, subst}
use Prim.Native.Nat.{ℕ, ◌*◌, ◌≤◌}
use native.Mathlib.Omega.{arith}
use borrow.Author.Rules.{rules}
use Rattle.def.specs.Picture.{root_count}
use Rattle.split.proofs.Roots.{few_roots}
use Rattle.marks.proofs.roots_in.Statement.{statement}
use Rattle.marks.proofs.roots_in.Tie as tie

-- what the code multiplies
product : (c : tie.After-roots_along-2) → c.roots_along.result * c.roots_along-2.result ≡ root_count c.args.w c.args.h
product c = ap₂ (λ (m n : ℕ). m * n) c.roots_along.ensures c.roots_along-2.ensures

few : (c : tie.After-roots_along-2) → c.roots_along.result * c.roots_along-2.result ≤ 4096
few c = subst (λ (n : ℕ). n ≤ 4096) (sym (product c)) (few_roots _ _ c.requires.wide c.requires.high)

mul_result : tie.Need-overflow_mul-result
mul_result c = omega (arith, few c)

returns : tie.Need-returns
returns c = (product c, few c)

pub roots_in_spec : {M : Type 1} → statement M
roots_in_spec = tie.close (tie.spec (λ c κs. search rules) (λ c κs. search rules) mul_result returns)
