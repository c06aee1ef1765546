-- `decoder_c::neighbours::lomsakeun_get_avail_intra` meets its contract: that of the call it makes, whose answer it reads as numbers. Assumes nothing.
use borrow.Author.Rules.{rules}
use Rattle.decoder_c.proofs.Masks.{masked_gives}
use Rattle.decoder_c.proofs.neighbours.lomsakeun_get_avail_intra.Statement.{statement}
use Rattle.decoder_c.proofs.neighbours.lomsakeun_get_avail_intra.Tie as tie

returns : tie.Need-returns
returns c = masked_gives c.get_avail_intra.result _ _ _ c.get_avail_intra.ensures c.in_numbers-seen.ensures

pub lomsakeun_get_avail_intra_spec : {M : Type 1} → statement M
lomsakeun_get_avail_intra_spec = tie.close (tie.spec (λ c κs. search rules) (λ c κs. search rules) returns)
