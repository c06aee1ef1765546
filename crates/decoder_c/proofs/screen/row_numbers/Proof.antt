-- `decoder_c::screen::row_numbers` meets its contract: by the answer. Assumes nothing.
use borrow.Author.Rules.{rules}
use Rattle.decoder_c.proofs.screen.row_numbers.Statement.{statement}
use Rattle.decoder_c.proofs.screen.row_numbers.Tie as tie

returns : tie.Need-returns-in-Ok
returns c = rw c.in-Ok.is

returns-2 : tie.Need-returns-in-Err
returns-2 c = rw (c.in-Err.is, c.refusal_number.ensures)

pub row_numbers_spec : {M : Type 1} → statement M
row_numbers_spec = tie.close (tie.spec (λ c. search rules) (λ c. search rules) (λ c κs. search rules) returns returns-2)
