-- `ward_rows::lies` meets its contract: the tests of the list, those first that keep the sums and the product small. Assumes nothing.
use Rattle.std.proofs.Common.{◌≡◌, ℕ, ◌+◌, ◌*◌, ◌<◌, ◌≤◌, true, false, get_or, sym, mul-le-mul, arith, rules, le-leb}
use borrow.Author.Tests.{lt-leb}
use Rattle.laws.proofs.Calls.{all_fails}
use Rattle.ward_check.specs.declared.Run.{Run}
use Rattle.ward_rows.specs.Rows.{lies_tests, lies}
use Rattle.ward_rows.proofs.Runs.{last_small}
use Rattle.ward_rows.proofs.lies.Statement.{statement}
use Rattle.ward_rows.proofs.lies.Tie as tie

fails : (run : Run) (w x y n r long out i : ℕ) → get_or (lies_tests run w x y n r long out) i true ≡ false → false ≡ lies run w x y n r long out
unfolding lies
fails run w x y n r long out i e = sym (all_fails (lies_tests run w x y n r long out) i e)

returns : tie.Need-returns-then-stride-gt4096
returns c = fails _ _ _ _ _ _ _ _ 0 (lt-leb _ _ c.if-stride-gt4096.true)

returns-2 : tie.Need-returns-then-y-gt4096
returns-2 c = fails _ _ _ _ _ _ _ _ 1 (lt-leb _ _ c.if-y-gt4096.true)

returns-3 : tie.Need-returns-then-row-gt4096
returns-3 c = fails _ _ _ _ _ _ _ _ 2 (lt-leb _ _ c.if-row-gt4096.true)

returns-4 : tie.Need-returns-then-stride-x
returns-4 c =
    let a = c.args in
    let past : a.stride < a.x + a.n = omega (arith, c.if-stride-x.true) in
    fails _ _ _ _ _ _ _ _ 3 (lt-leb _ _ past)

returns-5 : tie.Need-returns-then-stride-x-2
returns-5 c =
    let a = c.args in
    let past : a.stride < a.x + a.n = omega (arith, c.if-stride-x-2.true) in
    fails _ _ _ _ _ _ _ _ 3 (lt-leb _ _ past)

abbrev start : tie.Else-stride-x-2 → tie.Start
start c = c.before.before.before.before.before

-- what the tests so far tell
wide : (c : tie.Else-stride-x-2) → (start c).args.stride ≤ 4096
wide c = omega (arith, c.if-stride-gt4096.false)

some : (c : tie.Else-stride-x-2) → (start c).args.row ≤ 4096
some c = omega (arith, c.if-row-gt4096.false)

columns : (c : tie.Else-stride-x-2) → (start c).args.x + (start c).args.n ≤ (start c).args.stride
columns c = omega (arith, c.if-stride-x-2.false, c.if-stride-x.false)

-- the rows above the last, with it
module _ (c : tie.After-last_row) where
  rows : (start c.before).args.y + c.last_row.result ≤ 12289
  rows = let a = (start c.before).args in omega (arith, c.last_row.ensures, last_small a.run a.row (some c.before), c.if-y-gt4096.false)

  product : ((start c.before).args.y + c.last_row.result) * (start c.before).args.stride ≤ 50335744
  product = omega (arith, mul-le-mul {n₂ = 12289} {m₂ = 4096} rows (wide c.before))

returns-6 : tie.Need-returns
unfolding lies
returns-6 c =
    rw (
      le-leb _ _ (wide c.before.before),
      le-leb _ _ c.if-y-gt4096.false,
      le-leb _ _ (some c.before.before),
      le-leb _ _ (columns c.before.before),
      c.last_row.ensures,
      c.across_run.ensures,
    )

pub lies_spec : {M : Type 1} → statement M
lies_spec =
    tie.close
    (tie.spec returns returns-2 returns-3 returns-4 returns-5 (λ c κs. some c) (λ c. omega (arith, rows c)) (λ c. omega (arith, product c))
    (λ c. omega (arith, product c, columns c.before, wide c.before)) (λ c. omega (arith, product c, columns c.before, wide c.before)) (λ c κs. search rules) returns-6)
