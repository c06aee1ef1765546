-- `ward_rows::preview_row` meets its contract: the samples of both rows are tested, and then put. Assumes nothing.
use Rattle.std.proofs.Common.{◌≡◌, ◌*◌, ◌/◌, ◌&&◌, sym, refl, ◌∙◌, ap₂, arith, rules}
use borrow.Author.Tests.{not-false}
use Rattle.laws.proofs.Bools.{both_left, both_right}
use Rattle.ward_rows.specs.Samples.{run_ok}
use Rattle.ward_rows.proofs.Stores.{run_small, small_less}
use Rattle.ward_rows.proofs.preview_row.Statement.{statement}
use Rattle.ward_rows.proofs.preview_row.Tie as tie

-- what both tests found
both : (c : tie.After-run_ok-2) → let a = c.args in
    (c.run_ok.result && c.run_ok-2.result) ≡ (run_ok a.p.now a.from a.n && run_ok a.p.now a.below a.n)
both c = ap₂ (λ i j. i && j) c.run_ok.ensures c.run_ok-2.ensures

returns : tie.Need-returns-then-not-run_ok
returns c = (sym c.if-not-run_ok.true ∙ both c.before, refl)

put_preview_requires : tie.Need-put_preview-requires
put_preview_requires c κs =
    let p = c.args.p.now in
    let n = c.args.n in
    let t = not-false (c.run_ok.result && c.run_ok-2.result) c.if-not-run_ok.false-raw in (
      small_less p c.args.from n (2 * (n / 2)) (omega arith) (run_small p _ n (sym c.run_ok.ensures ∙ both_left c.run_ok.result c.run_ok-2.result t)),
      small_less p c.args.below n (2 * (n / 2)) (omega arith) (run_small p _ n (sym c.run_ok-2.ensures ∙ both_right c.run_ok.result c.run_ok-2.result t)),
      omega (arith, c.requires.0),
      omega (arith, c.requires.1),
      c.requires.2,
    )

returns-2 : tie.Need-returns
returns-2 c =
    (sym c.if-not-run_ok.false ∙ both c.before.before.before.before.before, c.put_preview.ensures)

pub preview_row_spec : {M : Type 1} → statement M
preview_row_spec = tie.close (tie.spec (λ c κs. search rules) (λ c κs. search rules) returns put_preview_requires (λ c. search rules) returns-2)
