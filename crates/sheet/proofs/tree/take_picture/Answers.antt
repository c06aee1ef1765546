-- The digits are put as bits, and taken as a map's are. Assumes nothing.
use Rattle.std.proofs.Common.{List, ℕ, ◌-◌, ◌∙◌, ap, length}
use Rattle.bits.specs.Bits.{bits_from}
use Rattle.sheet.proofs.Pictures.{values_bits}
use Rattle.sheet.proofs.Takes.{picture_met, picture_stopped}
use Rattle.sheet.proofs.tree.take_picture.Goals as goal

pub returns-in-Ok : goal.returns-in-Ok
returns-in-Ok c =
    let a = c.args in
    let d = a.digits.now in
    picture_met a.w a.h d _ a.map.now c.requires.0 c.requires.2 c.requires.3 _ _ _ c.take_map-placed.ensures
    (ap (λ (b : List ℕ). bits_from b 0 (length d - 0)) c.put_digits.ensures ∙ values_bits d c.requires.1 _ c.requires.2)
    c.in-Ok.is

pub returns-in-Err : goal.returns-in-Err
returns-in-Err c =
    let a = c.args in
    let d = a.digits.now in
    picture_stopped a.w a.h d _ a.map.now c.requires.0 c.requires.2 c.requires.3 _ _ _ c.take_map-placed.ensures
    (ap (λ (b : List ℕ). bits_from b 0 (length d - 0)) c.put_digits.ensures ∙ values_bits d c.requires.1 _ c.requires.2)
    _ _ c.in-Err.is c.as_sheet.ensures
