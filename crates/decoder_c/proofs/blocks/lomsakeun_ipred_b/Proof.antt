-- `decoder_c::blocks::lomsakeun_ipred_b` meets its contract: that of the call it makes, whose answer it reads as a number. Assumes nothing.
use borrow.Author.Rules.{rules}
use Rattle.decoder_c.proofs.blocks.lomsakeun_ipred_b.Statement.{statement}
use Rattle.decoder_c.proofs.blocks.lomsakeun_ipred_b.Tie as tie

returns : tie.Need-returns
returns c = rw c.answer_number.ensures c.ipred_b.ensures

pub lomsakeun_ipred_b_spec : {M : Type 1} → statement M
lomsakeun_ipred_b_spec = tie.close (tie.spec (λ c κs. search rules) (λ c κs. search rules) (λ c. search rules) returns)
