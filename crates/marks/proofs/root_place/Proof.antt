-- `marks::root_place` meets its contract: a root's column and row are at most its number, so their places fit. Assumes nothing.
use mathlib.Core.Path.{ap}
use Prim.Native.Nat.{ℕ, ◌*◌, ◌/◌, ◌%◌}
use native.Mathlib.Nat.{mod-le, div-le_self}
use native.Mathlib.Omega.{arith}
use borrow.Author.Rules.{rules}
use Rattle.marks.proofs.root_place.Statement.{statement}
use Rattle.marks.proofs.root_place.Tie as tie

mul_t5 : tie.Need-overflow_mul-result
mul_t5 c = omega (arith, mod-le c.args.i c.roots_along-across.result, c.requires)

mul_t8 : tie.Need-overflow_mul-result-2
mul_t8 c = omega (arith, div-le_self c.args.i c.roots_along-across.result, c.requires)

returns : tie.Need-returns
returns c = (
  ap (λ (n : ℕ). 64 * (c.args.i % n)) c.roots_along-across.ensures,
  ap (λ (n : ℕ). 64 * (c.args.i / n)) c.roots_along-across.ensures,
)

pub root_place_spec : {M : Type 1} → statement M
root_place_spec = tie.close (tie.spec (λ c κs. search rules) (λ c. search rules) mul_t5 (λ c. search rules) mul_t8 returns)
