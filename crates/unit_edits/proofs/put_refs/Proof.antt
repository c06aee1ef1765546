-- `unit_edits::put_refs` meets its contract: two stores. Assumes nothing.
use native.Mathlib.Omega.{arith}
use borrow.Author.Rules.{rules}
use lib.ListN.{length-set}
use Rattle.unit_edits.proofs.put_refs.Statement.{statement}
use Rattle.unit_edits.proofs.put_refs.Tie as tie

slice_set_from_refi1 : tie.Need-bounds-refs-r-2
slice_set_from_refi1 c = simp length-set (omega (arith, c.requires))

pub put_refs_spec : {M : Type 1} → statement M
put_refs_spec =
    tie.close
    (tie.spec
    (λ c. search rules)
    (λ c. search rules)
    (λ c. search rules)
    slice_set_from_refi1
    (λ c. search rules)
    (λ c. search rules))
