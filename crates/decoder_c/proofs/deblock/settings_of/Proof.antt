-- `decoder_c::deblock::settings_of` meets its contract: an offset that is stored is read back as it was. Assumes nothing.
use mathlib.Core.Path.{refl}
use mir.Syntax.{w8}
use borrow.Author.Rules.{rules}
use Rattle.laws.proofs.Widths.{back}
use Rattle.decoder_c.proofs.deblock.settings_of.Statement.{statement}
use Rattle.decoder_c.proofs.deblock.settings_of.Tie as tie

returns : tie.Need-returns
returns c =
    let fits = c.ranges in
    rw (back w8 _ fits.u_offset, back w8 _ fits.v_offset, c.format_of-format.ensures) refl

pub settings_of_spec : {M : Type 1} → statement M
settings_of_spec = tie.close (tie.spec (λ c κs. search rules) returns)
