-- `decoder_c::neighbours::in_numbers` meets its contract: a refused answer has no neighbour, and its mask is 0. Assumes nothing.
use borrow.Author.Rules.{rules}
use Rattle.decoder_c.proofs.Masks.{masked_done, masked_refused}
use Rattle.decoder_c.proofs.neighbours.in_numbers.Statement.{statement}
use Rattle.decoder_c.proofs.neighbours.in_numbers.Tie as tie

returns : tie.Need-returns-in-Ok
returns c = masked_done _ _ _ c.in-Ok.is c.byte_of.ensures

returns-2 : tie.Need-returns-in-Err
returns-2 c = masked_refused _ _ _ c.in-Err.is c.refusal_number.ensures

pub in_numbers_spec : {M : Type 1} → statement M
in_numbers_spec = tie.close (tie.spec (λ c. search rules) (λ c κs. search rules) (λ c. search rules) (λ c κs. search rules) returns returns-2)
