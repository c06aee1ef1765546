-- `unit_edits::put_motion` meets its contract: four stores. Assumes nothing.
use native.Mathlib.Omega.{arith}
use borrow.Author.Rules.{rules}
use lib.ListN.{length-set}
use Rattle.unit_edits.proofs.put_motion.Statement.{statement}
use Rattle.unit_edits.proofs.put_motion.Tie as tie

slice_set_from_y0 : tie.Need-bounds-motion-m-2
slice_set_from_y0 c = simp length-set (omega (arith, c.requires))

slice_set_from_x1 : tie.Need-bounds-motion-m-3
slice_set_from_x1 c = simp length-set (omega (arith, c.requires))

slice_set_from_y1 : tie.Need-bounds-motion-m-4
slice_set_from_y1 c = simp length-set (omega (arith, c.requires))

pub put_motion_spec : {M : Type 1} → statement M
put_motion_spec =
    tie.close
    (tie.spec
    (λ c. search rules)
    (λ c. search rules)
    (λ c. search rules)
    (λ c. search rules)
    (λ c. search rules)
    slice_set_from_y0
    (λ c. search rules)
    (λ c. search rules)
    slice_set_from_x1
    (λ c. search rules)
    (λ c. search rules)
    slice_set_from_y1
    (λ c. search rules)
    (λ c. search rules))
