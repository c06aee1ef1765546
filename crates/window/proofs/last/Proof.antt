-- `window::last` meets its contract: numbers of 32 bits have room in its sums. Assumes nothing.
use Prim.Native.Nat.{◌+◌, ◌-◌, ◌*◌, ◌≤◌}
use native.Mathlib.Omega.{arith}
use borrow.Author.Rules.{rules}
use Rattle.window.proofs.Places.{last_small}
use Rattle.window.proofs.last.Statement.{statement}
use Rattle.window.proofs.last.Tie as tie

few : (c : tie.After-wide) → (c.args.n - 1) * c.wide-next.result ≤ 30064771065
few c = last_small c.args.n c.wide-next.result c.requires.1 c.wide-next.ensures.1

returns : tie.Need-returns
returns c =
    let a = c.wide.ensures.0 in
    let n = c.wide-next.ensures.0 in
    let s = c.wide-step.ensures.0 in
    λ i. a i + (c.args.n - 1) * n i + 3 * s i

pub last_spec : {M : Type 1} → statement M
last_spec =
    tie.close
    (tie.spec (λ c κs. search rules) (λ c κs. search rules) (λ c κs. search rules) (λ c. search rules) (λ c. omega (arith, few c)) (λ c. omega (arith, few c)) (λ c. search rules)
    (λ c. omega (arith, few c)) returns)
