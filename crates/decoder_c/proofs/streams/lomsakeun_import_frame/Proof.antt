-- `decoder_c::streams::lomsakeun_import_frame` meets its contract: that of the call it makes, whose answer it reads as numbers. Assumes nothing.
use borrow.Author.Rules.{rules}
use Rattle.decoder_c.proofs.streams.lomsakeun_import_frame.Statement.{statement}
use Rattle.decoder_c.proofs.streams.lomsakeun_import_frame.Tie as tie

returns : tie.Need-returns
returns c = rw c.header_numbers-seen.ensures c.import_frame.ensures

pub lomsakeun_import_frame_spec : {M : Type 1} → statement M
lomsakeun_import_frame_spec =
    tie.close
    (tie.spec (λ c κs. search rules) (λ c κs. search rules) (λ c. search rules) (λ c. search rules) (λ c. search rules) returns)
