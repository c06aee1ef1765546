-- `driver_check::check::written_ok` meets its contract: the code is the list of tests. Assumes nothing.
use Prim.Native.Nat.{◌*◌, ◌/◌, ◌≤◌}
use native.Mathlib.Nat.{mul-le-mul}
use native.Mathlib.Omega.{arith}
use borrow.Author.Rules.{rules}
use Rattle.driver_rules.specs.Call.{written_ok}
use Rattle.driver_check.proofs.check.written_ok.Statement.{statement}
use Rattle.driver_check.proofs.check.written_ok.Tie as tie

luma : (s : tie.Start) → s.args.w * s.args.h ≤ 16777216
luma s = mul-le-mul {n₂ = 4096} {m₂ = 4096} s.requires.wide s.requires.high

units : (s : tie.Start) → s.args.w / 4 * (s.args.h / 4) ≤ 1048576
units s = mul-le-mul {n₂ = 1024} {m₂ = 1024} (omega (arith, s.requires.wide)) (omega (arith, s.requires.high))

returns : tie.Need-returns
unfolding written_ok
returns c = rw c.colour_length-chroma.ensures

pub written_ok_spec : {M : Type 1} → statement M
written_ok_spec =
    tie.close (tie.spec (λ c. omega (arith, luma c)) (λ c κs. search rules) (λ c. omega (arith, units c.before)) returns)
