-- `ward_rows::run_ok` meets its contract: the scan of a part is that of its places. Assumes nothing.
use Rattle.std.proofs.Common.{◌∙◌, rules}
use Rattle.ward_rows.proofs.Stores.{part_ok}
use Rattle.ward_rows.proofs.run_ok.Statement.{statement}
use Rattle.ward_rows.proofs.run_ok.Tie as tie

returns : tie.Need-returns
returns c = c.samples_ok.ensures ∙ part_ok c.args.p.now c.args.from c.args.n c.requires

pub run_ok_spec : {M : Type 1} → statement M
run_ok_spec =
    tie.close
    (tie.spec (λ c. search rules) (λ c. search rules) (λ c. search rules) (λ c. search rules) (λ c. search rules) (λ c κs. search rules) returns)
