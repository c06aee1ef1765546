-- `decoder_c::reconstruct::lomsakeun_reconstruct` meets its contract: that of the call it makes, whose answer it reads as a number. Assumes nothing.
use borrow.Author.Rules.{rules}
use Rattle.decoder_c.proofs.reconstruct.lomsakeun_reconstruct.Statement.{statement}
use Rattle.decoder_c.proofs.reconstruct.lomsakeun_reconstruct.Tie as tie

returns : tie.Need-returns
returns c =
    rw (c.answer_number.ensures, ← c.format_of.ensures) c.reconstruct.ensures

pub lomsakeun_reconstruct_spec : {M : Type 1} → statement M
lomsakeun_reconstruct_spec =
    tie.close
    (tie.spec
    (λ c κs. search rules)
    (λ c κs. search rules)
    (λ c κs. search rules)
    (λ c. search rules)
    (λ c. search rules)
    (λ c. search rules)
    (λ c. search rules)
    (λ c. search rules)
    (λ c. search rules)
    returns)
