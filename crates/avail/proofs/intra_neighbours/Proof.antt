-- `avail::intra_neighbours` meets its contract: every unit that it reads is within reach, and the eight answers are the rule's. Assumes nothing.
use native.Mathlib.Omega.{arith}
use borrow.Author.Rules.{rules}
use Rattle.avail.proofs.Accepted.{accepted, in_reach}
use Rattle.avail.proofs.Around.{intra_are}
use Rattle.avail.proofs.intra_neighbours.Statement.{statement}
use Rattle.avail.proofs.intra_neighbours.Tie as tie

returns : tie.Need-returns
returns c =
    intra_are _ (accepted _ c.requires) _ c.pel2scu-sy.ensures _ _ _ _ _ _
    c.done_near-left.ensures c.done_near-right.ensures c.done_near.ensures c.done_near-2.ensures
    c.done_near-3.ensures c.done_near-4.ensures

pub intra_neighbours_spec : {M : Type 1} → statement M
intra_neighbours_spec =
    tie.close
    (tie.spec
    (λ c κs. search rules)
    (λ c κs. in_reach _ _ _ _ _ _ _ _ c.requires (omega arith) (omega arith))
    (λ c. search rules)
    (λ c κs. in_reach _ _ _ _ _ _ _ _ c.requires (omega arith) (omega arith))
    (λ c κs. in_reach _ _ _ _ _ _ _ _ c.requires (omega arith) (omega arith))
    (λ c. search rules)
    (λ c κs. in_reach _ _ _ _ _ _ _ _ c.requires (omega arith) (omega arith))
    (λ c. search rules)
    (λ c κs. in_reach _ _ _ _ _ _ _ _ c.requires (omega arith) (omega arith))
    (λ c. search rules)
    (λ c. search rules)
    (λ c κs. in_reach _ _ _ _ _ _ _ _ c.requires (omega arith) (omega arith))
    returns)
