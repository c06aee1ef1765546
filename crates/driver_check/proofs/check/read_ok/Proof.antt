-- `driver_check::check::read_ok` meets its contract: the code is the list of tests. Assumes nothing.
use Prim.Native.Nat.{◌*◌, ◌≤◌}
use native.Mathlib.Nat.{mul-le-mul}
use native.Mathlib.Omega.{arith}
use borrow.Author.Rules.{rules}
use Rattle.split.proofs.Roots.{few_roots}
use Rattle.driver_rules.specs.Call.{read_ok}
use Rattle.driver_check.proofs.check.read_ok.Statement.{statement}
use Rattle.driver_check.proofs.check.read_ok.Tie as tie

few : (c : tie.After-roots_along-2) → c.roots_along.result * c.roots_along-2.result ≤ 4096
few c =
    rw (c.roots_along.ensures, c.roots_along-2.ensures) (few_roots c.args.w c.args.h c.requires.wide c.requires.high)

luma : (s : tie.Start) → s.args.w * s.args.h ≤ 16777216
luma s = mul-le-mul {n₂ = 4096} {m₂ = 4096} s.requires.wide s.requires.high

returns : tie.Need-returns
unfolding read_ok
returns c = rw (c.roots_along.ensures, c.roots_along-2.ensures, c.colour_length-chroma.ensures)

pub read_ok_spec : {M : Type 1} → statement M
read_ok_spec =
    tie.close
    (tie.spec (λ c κs. search rules) (λ c κs. search rules) (λ c. omega (arith, few c)) (λ c. omega (arith, luma c.before.before))
    (λ c κs. c.requires) (λ c. omega (arith, few c.before)) returns)
