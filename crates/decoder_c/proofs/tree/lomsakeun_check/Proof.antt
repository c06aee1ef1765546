-- `decoder_c::tree::lomsakeun_check` meets its contract: that of the call it makes, whose answer it reads as a number. Assumes nothing.
use borrow.Author.Rules.{rules}
use Rattle.decoder_c.proofs.tree.lomsakeun_check.Statement.{statement}
use Rattle.decoder_c.proofs.tree.lomsakeun_check.Tie as tie

returns : tie.Need-returns
returns c = rw c.answer_number.ensures c.check.ensures

pub lomsakeun_check_spec : {M : Type 1} → statement M
lomsakeun_check_spec = tie.close (tie.spec (λ c κs. search rules) (λ c κs. search rules) returns)
