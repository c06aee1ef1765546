-- `df_check::check::lengths_ok` meets its contract: the products fit, and the code is the list of tests, at the format's lengths. Assumes nothing.
use Prim.Native.Nat.{◌*◌, ◌/◌, ◌≤◌}
use mathlib.Core.Path.{◌≡◌, refl, ap₂}
use native.Mathlib.Nat.{mul-le-mul}
use native.Mathlib.Omega.{arith}
use borrow.Author.Rules.{rules}
use Rattle.def.specs.Picture.{root_count}
use Rattle.split.proofs.Roots.{few_units, few_roots}
use Rattle.df_check.specs.Checks.{lengths_ok}
use Rattle.df_check.proofs.check.lengths_ok.Statement.{statement}
use Rattle.df_check.proofs.check.lengths_ok.Tie as tie

mul_in_format : tie.Need-overflow_mul-w
mul_in_format c = omega (arith, c.requires.0.wide, c.requires.0.high, mul-le-mul {n₁ = c.args.w / 2} {m₁ = c.args.lent / 2} {n₂ = 2048} {m₂ = 2048} (omega arith) (omega arith))

mul_units : tie.Need-overflow_mul-units
mul_units c = omega (arith, few_units c.requires.0)

module _ (c : tie.After-roots_along-2) where
  abbrev s : tie.Start
  s = c.before.before.before.before

  same : c.roots_along.result * c.roots_along-2.result ≡ root_count s.args.w s.args.own
  same = ap₂ ◌*◌ c.roots_along.ensures c.roots_along-2.ensures

  few : c.roots_along.result * c.roots_along-2.result ≤ 4096
  few = omega (arith, same, few_roots s.args.w s.args.own s.requires.1.wide s.requires.1.high)

mul_roots : tie.Need-overflow_mul-roots
mul_roots c = omega (arith, few c)

mul_result : tie.Need-overflow_mul-result
mul_result c = let p = (s c).requires in omega (arith, mul-le-mul p.0.wide p.0.high)

mul_result_2 : tie.Need-overflow_mul-result-2
mul_result_2 c = omega (arith, few c.before.before.before.before)

mul_result_3 : tie.Need-overflow_mul-result-3
mul_result_3 c = omega (arith, few_units (s c.before.before.before.before.before).requires.0)

mul_result_4 : tie.Need-overflow_mul-result-4
mul_result_4 c = omega (arith, few_units (s c.before.before.before.before.before.before).requires.0)

returns : tie.Need-returns
unfolding lengths_ok
returns c =
    rw (c.in_format-chroma.ensures, c.in_format-table.ensures, same c.before.before.before.before.before.before.before.before.before.before.before) refl

pub lengths_ok_spec : {M : Type 1} → statement M
lengths_ok_spec =
    tie.close
    (tie.spec mul_in_format (λ c κs. search rules) (λ c κs. search rules) mul_units (λ c κs. search rules) (λ c κs. search rules) mul_roots mul_result mul_result_2 mul_result_3 mul_result_4 returns)
