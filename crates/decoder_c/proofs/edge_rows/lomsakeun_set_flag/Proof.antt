-- `decoder_c::edge_rows::lomsakeun_set_flag` meets its contract: that of the call it makes, whose answer it reads as a number. Assumes nothing.
use borrow.Author.Rules.{rules}
use Rattle.decoder_c.proofs.edge_rows.lomsakeun_set_flag.Statement.{statement}
use Rattle.decoder_c.proofs.edge_rows.lomsakeun_set_flag.Tie as tie

returns : tie.Need-returns
returns c = rw (c.answer_number.ensures, ← c.flag_of.ensures) c.set_flag.ensures

pub lomsakeun_set_flag_spec : {M : Type 1} → statement M
lomsakeun_set_flag_spec = tie.close (tie.spec (λ c κs. search rules) (λ c κs. search rules) (λ c κs. search rules) (λ c. search rules) (λ c. search rules) returns)
