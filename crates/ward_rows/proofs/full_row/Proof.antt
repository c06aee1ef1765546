-- `ward_rows::full_row` meets its contract: the samples are tested, and then put. Assumes nothing.
use Rattle.std.proofs.Common.{sym, refl, ◌∙◌, rules}
use Rattle.ward_rows.proofs.Stores.{run_small}
use Rattle.ward_rows.proofs.full_row.Statement.{statement}
use Rattle.ward_rows.proofs.full_row.Tie as tie

returns : tie.Need-returns-then-not-run_ok
returns c = (sym c.if-not-run_ok.true ∙ c.run_ok.ensures, refl)

put_full_requires : tie.Need-put_full-requires
put_full_requires c κs =
    (run_small _ _ _ (sym c.run_ok.ensures ∙ c.if-not-run_ok.false), c.requires.0, c.requires.1)

returns-2 : tie.Need-returns
returns-2 c =
    (sym c.if-not-run_ok.false ∙ c.run_ok.ensures, c.put_full.ensures)

pub full_row_spec : {M : Type 1} → statement M
full_row_spec = tie.close (tie.spec (λ c κs. search rules) returns put_full_requires (λ c. search rules) returns-2)
