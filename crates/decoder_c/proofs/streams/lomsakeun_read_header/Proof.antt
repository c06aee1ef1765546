-- `decoder_c::streams::lomsakeun_read_header` meets its contract: that of the call it makes, whose answer it reads as numbers. Assumes nothing.
use borrow.Author.Rules.{rules}
use Rattle.decoder_c.proofs.streams.lomsakeun_read_header.Statement.{statement}
use Rattle.decoder_c.proofs.streams.lomsakeun_read_header.Tie as tie

returns : tie.Need-returns
returns c = rw c.header_numbers-seen.ensures c.read_header.ensures

pub lomsakeun_read_header_spec : {M : Type 1} → statement M
lomsakeun_read_header_spec = tie.close (tie.spec (λ c κs. search rules) (λ c κs. search rules) returns)
