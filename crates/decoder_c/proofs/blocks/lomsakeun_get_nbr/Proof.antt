-- `decoder_c::blocks::lomsakeun_get_nbr` meets its contract: that of the call it makes, whose answer it reads as a number. Assumes nothing.
use borrow.Author.Rules.{rules}
use Rattle.decoder_c.proofs.blocks.lomsakeun_get_nbr.Statement.{statement}
use Rattle.decoder_c.proofs.blocks.lomsakeun_get_nbr.Tie as tie

returns : tie.Need-returns
returns c = rw (c.answer_number.ensures, ← c.component.ensures) c.get_nbr.ensures

pub lomsakeun_get_nbr_spec : {M : Type 1} → statement M
lomsakeun_get_nbr_spec = tie.close (tie.spec (λ c κs. search rules) (λ c κs. search rules) (λ c κs. search rules) (λ c. search rules) returns)
