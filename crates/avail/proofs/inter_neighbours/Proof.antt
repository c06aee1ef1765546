-- `avail::inter_neighbours` meets its contract: every unit that it reads is within reach, and the eight answers are the rule's. Assumes nothing.
use native.Mathlib.Omega.{arith}
use borrow.Author.Rules.{rules}
use Rattle.avail.proofs.Accepted.{accepted, in_reach}
use Rattle.avail.proofs.Around.{inter_are}
use Rattle.avail.proofs.inter_neighbours.Statement.{statement}
use Rattle.avail.proofs.inter_neighbours.Tie as tie

returns : tie.Need-returns
returns c =
    inter_are _ (accepted _ c.requires) _ c.pel2scu-sy.ensures _ _ _ _ _ _ _ _
    c.cod_nif_near-left.ensures c.cod_nif_near-right.ensures c.intra_near.ensures c.cod_nif_near.ensures
    c.cod_nif_near-2.ensures c.cod_nif_near-3.ensures c.cod_nif_near-4.ensures c.intra_near-2.ensures

pub inter_neighbours_spec : {M : Type 1} → statement M
inter_neighbours_spec =
    tie.close
    (tie.spec
    (λ c κs. search rules)
    (λ c κs. in_reach _ _ _ _ _ _ _ _ c.requires (omega arith) (omega arith))
    (λ c. search rules)
    (λ c κs. in_reach _ _ _ _ _ _ _ _ c.requires (omega arith) (omega arith))
    (λ c κs. in_reach _ _ _ _ _ _ _ _ c.requires (omega arith) (omega arith))
    (λ c κs. in_reach _ _ _ _ _ _ _ _ c.requires (omega arith) (omega arith))
    (λ c. search rules)
    (λ c κs. in_reach _ _ _ _ _ _ _ _ c.requires (omega arith) (omega arith))
    (λ c. search rules)
    (λ c κs. in_reach _ _ _ _ _ _ _ _ c.requires (omega arith) (omega arith))
    (λ c. search rules)
    (λ c. search rules)
    (λ c κs. in_reach _ _ _ _ _ _ _ _ c.requires (omega arith) (omega arith))
    (λ c κs. in_reach _ _ _ _ _ _ _ _ c.requires (omega arith) (omega arith))
    returns)
