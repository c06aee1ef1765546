-- `edges::list_lengths_ok` meets its contract: the code is the list of tests. Assumes nothing.
use mathlib.Core.Path.{◌≡◌, ap₂}
use Prim.Native.Nat.{◌*◌}
use native.Mathlib.Omega.{arith}
use borrow.Author.Rules.{rules}
use Rattle.def.specs.Picture.{root_count}
use Rattle.split.specs.ListCall.{lengths_ok}
use Rattle.split.proofs.Roots.{few_roots, few_units}
use Rattle.edges.proofs.list_lengths_ok.Statement.{statement}
use Rattle.edges.proofs.list_lengths_ok.Tie as tie

module _ (c : tie.After-roots_along-2) where
  abbrev s : tie.Start
  s = c.before.before

  same : c.roots_along.result * c.roots_along-2.result ≡ root_count s.args.w s.args.h
  same = ap₂ ◌*◌ c.roots_along.ensures c.roots_along-2.ensures

mul_roots : tie.Need-overflow_mul-roots
mul_roots c = omega (arith, same c, few_roots _ _ (s c).requires.wide (s c).requires.high)

mul_buffer : tie.Need-overflow_mul-buffer
mul_buffer c = omega (arith, few_units (s c).requires)

mul_buffer_2 : tie.Need-overflow_mul-buffer-2
mul_buffer_2 c = omega (arith, few_units (s c).requires)

mul_result : tie.Need-overflow_mul-result
mul_result c = omega (arith, same c, few_roots _ _ (s c).requires.wide (s c).requires.high)

returns : tie.Need-returns
unfolding lengths_ok
returns c = rw (same c)

pub list_lengths_ok_spec : {M : Type 1} → statement M
list_lengths_ok_spec = tie.close (tie.spec (λ c κs. search rules) (λ c κs. search rules) mul_roots mul_buffer mul_buffer_2 mul_result returns)
