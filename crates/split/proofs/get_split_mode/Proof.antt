-- `split::get_split_mode` meets its contract: the centre's column and row are turned into units by `pel2scu`. Assumes nothing.
use borrow.Author.Rules.{rules}
use Rattle.split.proofs.Blocks.{byte_at_centre}
use Rattle.split.proofs.get_split_mode.Statement.{statement}
use Rattle.split.proofs.get_split_mode.Tie as tie

returns : tie.Need-returns
returns c =
    let a = c.args in
    byte_at_centre a.bytes.now a.level c.pel2scu-column.ensures c.pel2scu-row.ensures

pub get_split_mode_spec : {M : Type 1} → statement M
get_split_mode_spec =
    tie.close
    (tie.spec
    (λ c. search rules)
    (λ c κs. search rules)
    (λ c. search rules)
    (λ c κs. search rules)
    (λ c. search rules)
    (λ c. search rules)
    (λ c. search rules)
    (λ c. search rules)
    (λ c. search rules)
    returns)
