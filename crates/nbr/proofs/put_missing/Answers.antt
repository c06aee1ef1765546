-- `nbr::put_missing`: what is filled is a row.
use Rattle.samples.proofs.Parts.{filled_row}
use Rattle.nbr.proofs.put_missing.Goals as goal

pub returns : goal.returns
returns c = filled_row 0 _ _ _ _ _ c.requires (c.fill.ensures.after (λ y e. e))
