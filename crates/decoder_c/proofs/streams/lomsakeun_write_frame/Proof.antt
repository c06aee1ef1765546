-- `decoder_c::streams::lomsakeun_write_frame` meets its contract: that of the call it makes, whose answer it reads as numbers. Assumes nothing.
use mathlib.Core.Path.{sym}
use borrow.Author.Rules.{rules}
use Rattle.decoder_c.proofs.streams.lomsakeun_write_frame.Statement.{statement}
use Rattle.decoder_c.proofs.streams.lomsakeun_write_frame.Tie as tie

returns : tie.Need-returns
returns c =
    rw (c.answer_number.ensures, sym c.format_of.ensures) c.write_frame.ensures

pub lomsakeun_write_frame_spec : {M : Type 1} → statement M
lomsakeun_write_frame_spec =
    tie.close (tie.spec (λ c κs. search rules) (λ c κs. search rules) (λ c κs. search rules) (λ c. search rules) returns)
