-- `sheet::tree::root_count` meets its contract. Assumes nothing.
use mathlib.Core.Path.{◌≡◌, ap₂, ◌∙◌}
use Prim.Native.Nat.{◌*◌}
use native.Mathlib.Omega.{arith}
use borrow.Author.Rules.{rules}
use Rattle.def.specs.Picture.{root_count}
use Rattle.sheet.proofs.Pictures.{count_roots}
use Rattle.sheet.proofs.tree.root_count.Statement.{statement}
use Rattle.sheet.proofs.tree.root_count.Tie as tie

same : (c : tie.After-roots_along-2) → let a = c.args in c.roots_along.result * c.roots_along-2.result ≡ root_count a.w a.h
same c = ap₂ ◌*◌ c.roots_along.ensures c.roots_along-2.ensures

mul_result : tie.Need-overflow_mul-result
mul_result c = omega (arith, same c, (count_roots _ _ c.requires).1)

returns : tie.Need-returns
returns c = let r = count_roots _ _ c.requires in (same c ∙ r.0, omega (arith, same c, r.1))

pub root_count_spec : {M : Type 1} → statement M
root_count_spec = tie.close (tie.spec (λ c κs. search rules) (λ c κs. search rules) mul_result returns)
