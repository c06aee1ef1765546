-- `decoder_c::edge_rows::lomsakeun_fill_rows` meets its contract: that of the call it makes, whose answer it reads as a number. Assumes nothing.
use borrow.Author.Rules.{rules}
use Rattle.decoder_c.proofs.edge_rows.lomsakeun_fill_rows.Statement.{statement}
use Rattle.decoder_c.proofs.edge_rows.lomsakeun_fill_rows.Tie as tie

returns : tie.Need-returns
returns c = rw c.answer_number.ensures c.fill_rows.ensures

pub lomsakeun_fill_rows_spec : {M : Type 1} → statement M
lomsakeun_fill_rows_spec = tie.close (tie.spec (λ c κs. search rules) (λ c κs. search rules) (λ c. search rules) returns)
