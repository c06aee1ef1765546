-- `unit_maps::lies` meets its contract: the tests of the list, those first that keep the sums and the product small. Assumes nothing.
use Prim.Native.Nat.{ℕ, ◌+◌, ◌≤◌, ◌<◌}
use mathlib.Core.Path.{◌≡◌, sym}
use mathlib.Core.Bool.{true, false}
use native.Mathlib.Nat.{mul-le-mul}
use native.Mathlib.Omega.{arith}
use borrow.Author.Rules.{rules}
use borrow.Author.Tests.{le-leb, lt-leb}
use lib.ListN.{get_or}
use Rattle.laws.proofs.Calls.{all_fails}
use Rattle.unit_maps.specs.Maps.{lies_tests, lies}
use Rattle.unit_maps.proofs.lies.Statement.{statement}
use Rattle.unit_maps.proofs.lies.Tie as tie

fails : (columns x y n words modes keep i : ℕ) → get_or (lies_tests columns x y n words modes keep) i true ≡ false → false ≡ lies columns x y n words modes keep
unfolding lies
fails columns x y n words modes keep i e = sym (all_fails (lies_tests columns x y n words modes keep) i e)

returns : tie.Need-returns-then-columns-gt1024
returns c = fails _ _ _ _ _ _ _ 0 (lt-leb _ _ c.if-columns-gt1024.true)

returns-2 : tie.Need-returns-then-y-gt1024
returns-2 c = fails _ _ _ _ _ _ _ 1 (lt-leb _ _ c.if-y-gt1024.true)

returns-3 : tie.Need-returns-then-columns-x
returns-3 c =
    let a = c.args in
    let past : a.columns < a.x + a.n = omega (arith, c.if-columns-x.true) in
    fails _ _ _ _ _ _ _ 2 (lt-leb _ _ past)

returns-4 : tie.Need-returns-then-columns-x-2
returns-4 c =
    let a = c.args in
    let past : a.columns < a.x + a.n = omega (arith, c.if-columns-x-2.true) in
    fails _ _ _ _ _ _ _ 2 (lt-leb _ _ past)

abbrev start : tie.Else-columns-x-2 → tie.Start
start c = c.before.before.before.before

mul_end : tie.Need-overflow_mul-end
mul_end c =
    let a = (start c).args in
    let wide : a.columns ≤ 1024 = omega (arith, c.if-columns-gt1024.false) in
    let rows : a.y + a.n ≤ 2048 = omega (arith, wide, c.if-y-gt1024.false, c.if-columns-x-2.false) in
    omega (arith, mul-le-mul {n₂ = 2048} {m₂ = 1024} rows wide)

returns-5 : tie.Need-returns
unfolding lies
returns-5 c =
    let a = (start c).args in
    let right : a.x + a.n ≤ a.columns = omega (arith, c.if-columns-x-2.false, c.if-columns-x.false) in
    rw (le-leb _ _ c.if-columns-gt1024.false, le-leb _ _ c.if-y-gt1024.false, le-leb _ _ right)

pub lies_spec : {M : Type 1} → statement M
lies_spec = tie.close (tie.spec returns returns-2 returns-3 returns-4 (λ c. search rules) mul_end returns-5)
