-- `sheet::listing` meets its contract. Assumes nothing.
use borrow.Author.Rules.{rules}
use Rattle.sheet.proofs.Outcomes.{buffer_no, printed_whole}
use Rattle.sheet.proofs.listing.Statement.{statement}
use Rattle.sheet.proofs.listing.Tie as tie

returns : tie.Need-returns-then-out-ne81920
returns c = buffer_no _ _ c.if-out-ne81920.true

returns-2 : tie.Need-returns
returns-2 c = printed_whole _ _ _ _ c.if-out-ne81920.false c.print_sheet.ensures

pub listing_spec : {M : Type 1} → statement M
listing_spec = tie.close (tie.spec returns (λ c κs. search rules) (λ c. search rules) returns-2)
