-- `df::pass::root_count` meets its contract: at most 64 roots stand along a side, so their number fits. Assumes nothing.
use mathlib.Core.Path.{◌≡◌, ap₂}
use Prim.Native.Nat.{◌*◌}
use native.Mathlib.Omega.{arith}
use borrow.Author.Rules.{rules}
use Rattle.def.specs.Picture.{root_count}
use Rattle.split.proofs.Roots.{few_roots}
use Rattle.df.proofs.pass.root_count.Statement.{statement}
use Rattle.df.proofs.pass.root_count.Tie as tie

module _ (c : tie.After-roots_along-2) where
  abbrev s : tie.Start
  s = c.before.before

  same : c.roots_along.result * c.roots_along-2.result ≡ root_count s.args.w s.args.h
  same = ap₂ ◌*◌ c.roots_along.ensures c.roots_along-2.ensures

mul_result : tie.Need-overflow_mul-result
mul_result c = let p = (s c).requires in omega (arith, same c, few_roots _ _ p.0 p.1)

returns : tie.Need-returns
returns c = let p = (s c).requires in (same c, omega (arith, same c, few_roots _ _ p.0 p.1))

pub root_count_spec : {M : Type 1} → statement M
root_count_spec = tie.close (tie.spec (λ c κs. search rules) (λ c κs. search rules) mul_result returns)
