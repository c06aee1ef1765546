-- `decoder_c::screen::lomsakeun_ward_row` meets its contract: that of the call it makes, whose answer it reads as numbers. Assumes nothing.
use borrow.Author.Rules.{rules}
use Rattle.decoder_c.proofs.Screens.{in_numbers}
use Rattle.decoder_c.proofs.screen.lomsakeun_ward_row.Statement.{statement}
use Rattle.decoder_c.proofs.screen.lomsakeun_ward_row.Tie as tie

returns : tie.Need-returns
returns c = rw (c.run_of.ensures, c.chroma_format-format.ensures) at
    (in_numbers _ _ _ c.row_numbers-seen.ensures c.row.ensures)

pub lomsakeun_ward_row_spec : {M : Type 1} → statement M
lomsakeun_ward_row_spec =
    tie.close
    (tie.spec (λ c κs. search rules) (λ c κs. search rules) (λ c κs. search rules) (λ c κs. search rules) (λ c. search rules) returns)
