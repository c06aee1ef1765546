-- `decoder_c::edge_rows::motion_of` meets its contract: a number that is stored is read back as it was. Assumes nothing.
use mathlib.Core.Path.{refl}
use mir.Syntax.{w8, w16}
use Rattle.laws.proofs.Widths.{back}
use Rattle.decoder_c.proofs.edge_rows.motion_of.Statement.{statement}
use Rattle.decoder_c.proofs.edge_rows.motion_of.Tie as tie

returns : tie.Need-returns
returns c =
    let fits = c.ranges in
    rw (back w16 _ fits.x0, back w16 _ fits.y0, back w16 _ fits.x1, back w16 _ fits.y1, back w8 _ fits.refi0, back w8 _ fits.refi1) refl

pub motion_of_spec : {M : Type 1} → statement M
motion_of_spec = tie.close (tie.spec returns)
