-- `decoder_c::edge_rows::lomsakeun_set_motion` meets its contract: that of the call it makes, whose answer it reads as a number. Assumes nothing.
use mathlib.Core.Path.{◌≡◌, ◌∙◌}
use mir.Syntax.{w8, w16}
use borrow.Author.Rules.{rules}
use Rattle.laws.proofs.Widths.{back}
use Rattle.decoder_c.specs.Flags.{motion_of}
use Rattle.decoder_c.proofs.Moves.{moved_gives}
use Rattle.decoder_c.proofs.edge_rows.lomsakeun_set_motion.Statement.{statement}
use Rattle.decoder_c.proofs.edge_rows.lomsakeun_set_motion.Tie as tie

-- the motion that is handed on is that of the numbers
moved : (c : tie.After-motion_of) → let a = c.args in c.motion_of.result ≡ motion_of a.x0 a.y0 a.x1 a.y1 a.refi0 a.refi1
moved c =
    let f = c.ranges in
    c.motion_of.ensures
    ∙ (λ i. motion_of (back w16 _ f.x0 i) (back w16 _ f.y0 i) (back w16 _ f.x1 i) (back w16 _ f.y1 i) (back w8 _ f.refi0 i) (back w8 _ f.refi1 i))

returns : tie.Need-returns
returns c =
    moved_gives _ _ _ _ _ _ _ (moved c.before.before.before.before.before.before.before.before.before) c.answer_number.ensures c.set_motion.ensures

pub lomsakeun_set_motion_spec : {M : Type 1} → statement M
lomsakeun_set_motion_spec =
    tie.close (tie.spec (λ c κs. search rules) (λ c κs. search rules) (λ c κs. search rules) (λ c. search rules) (λ c. search rules) (λ c. search rules) returns)
