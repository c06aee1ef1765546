-- `edge_filter::place::place` meets its contract: the start, by its two products, which are small. Assumes nothing.
use Prim.Native.Nat.{ℕ, ◌+◌, ◌-◌, ◌*◌, ◌≤◌}
use mathlib.Core.Path.{◌≡◌}
use native.Mathlib.Nat.{mul-le-mul}
use native.Mathlib.Omega.{arith}
use mir.Syntax.{w32, w64}
use mir.Val.{Fits}
use borrow.Author.Rules.{rules}
use Rattle.edge_filter.proofs.place.place.Statement.{statement}
use Rattle.edge_filter.proofs.place.place.Tie as tie

along_small : {n step wide : ℕ} → n ≤ 65535 → step ≤ wide + 1 → wide ≤ 4096 → n * step ≤ 268496895
along_small {n} {step} h k l = mul-le-mul {n₁ = n} {m₁ = step} {n₂ = 65535} {m₂ = 4097} h (omega arith)

fits : {m : ℕ} → m ≤ 268496895 → Fits w64 m
fits l = omega arith

sum_fits : {m n : ℕ} → m ≤ 268496895 → n ≤ 268496895 → Fits w64 (m + n)
sum_fits k l = omega arith

low_fits : {m n : ℕ} → m ≤ 268496895 → n ≤ 268496895 → Fits w32 (m + n)
low_fits k l = omega arith

two_less : {m n : ℕ} → m ≤ 65535 → n ≡ m - 2 → n ≤ 65535
two_less l e = omega arith

at_small : (c : tie.After-two_before) → c.args.along * c.step_along-next.result ≤ 268496895
at_small c = along_small c.requires.2 c.step_along-next.ensures.1 c.requires.0

before_small : (c : tie.After-two_before) → c.two_before.result * c.step_across-step.result ≤ 268496895
before_small c = along_small (two_less c.requires.1 c.two_before.ensures) c.step_across-step.ensures.1 c.requires.0

mul_at : tie.Need-overflow_mul-at
mul_at c = fits (along_small c.requires.2 c.step_along-next.ensures.1 c.requires.0)

mul_at_2 : tie.Need-overflow_mul-at-2
mul_at_2 c = fits (before_small c)

add_at : tie.Need-overflow_add-at
add_at c = sum_fits (at_small c) (before_small c)

cast_t11 : tie.Need-overflow_cast-result
cast_t11 c = low_fits (at_small c) (before_small c)

returns : tie.Need-returns
returns c = cc (c.step_along-next.ensures.0, c.step_across-step.ensures.0, c.two_before.ensures)

pub place_spec : {M : Type 1} → statement M
place_spec =
    tie.close
    (tie.spec
    (λ c κs. search rules) (λ c κs. search rules) mul_at (λ c κs. search rules) mul_at_2 add_at cast_t11 (λ c. search rules) (λ c. search rules)
    returns)
