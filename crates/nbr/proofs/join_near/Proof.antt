-- `nbr::join_near` meets its contract: as many samples are joined as both the units and the picture have. Assumes nothing.
use Prim.Native.Nat.{ℕ, ◌*◌, ◌≤◌}
use mathlib.Core.Path.{sym, ◌∙◌}
use native.Mathlib.Nat.{mul-le-mul, mul-le-mul_right}
use native.Mathlib.Omega.{arith}
use Rattle.laws.proofs.Scans.{scan_at}
use Rattle.nbr.proofs.join_near.Statement.{statement}
use Rattle.nbr.proofs.join_near.Tie as tie

-- u units of n samples are few
few : (u n : ℕ) → u ≤ 32 → n ≤ 4 → u * n ≤ 128
few u n p q = mul-le-mul p q

mul_there : tie.Need-overflow_mul-there
mul_there c = omega (arith, few c.args.arm.there c.args.n (omega (arith, c.requires.1, c.if-there-units.true)) c.requires.0)

returns : tie.Need-returns-then-there-units
returns c = λ e k p q. scan_at _ _ k q (sym c.join_samples.ensures ∙ e)

mul_units : tie.Need-overflow_mul-units
mul_units c = omega (arith, few c.args.units c.args.n c.requires.1 c.requires.0)

join_samples_requires_2 : tie.Need-join_samples-requires-2
join_samples_requires_2 c κs =
    λ j p. c.requires.2 j (omega (arith, mul-le-mul_right {m = c.args.units} {n = c.args.arm.there} c.args.n (omega (arith, c.if-there-units.false))))

returns-2 : tie.Need-returns
returns-2 c = λ e k p q. scan_at _ _ k p (sym c.join_samples-2.ensures ∙ e)

pub join_near_spec : {M : Type 1} → statement M
join_near_spec = tie.close (tie.spec mul_there (λ c κs. c.requires.2) returns mul_units join_samples_requires_2 returns-2)
