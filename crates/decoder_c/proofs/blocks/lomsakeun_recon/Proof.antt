-- `decoder_c::blocks::lomsakeun_recon` meets its contract: that of the call it makes, whose answer it reads as a number. Assumes nothing.
use borrow.Author.Rules.{rules}
use Rattle.decoder_c.proofs.blocks.lomsakeun_recon.Statement.{statement}
use Rattle.decoder_c.proofs.blocks.lomsakeun_recon.Tie as tie

returns : tie.Need-returns
returns c = rw c.answer_number.ensures c.recon.ensures

pub lomsakeun_recon_spec : {M : Type 1} → statement M
lomsakeun_recon_spec = tie.close (tie.spec (λ c κs. search rules) (λ c κs. search rules) (λ c. search rules) returns)
