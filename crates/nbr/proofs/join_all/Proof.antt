-- `nbr::join_all` meets its contract: each arm tells of its own samples. Assumes nothing.
use borrow.Author.Rules.{rules}
use Rattle.nbr.proofs.Borders.{all_pass}
use Rattle.nbr.proofs.join_all.Statement.{statement}
use Rattle.nbr.proofs.join_all.Tie as tie

returns : tie.Need-returns
returns c =
    let left = c.join_near in
    let corner = c.join_near-2 in
    let up = c.join_near-3 in
    all_pass _ _ left.result corner.result up.result left.ensures corner.ensures up.ensures

pub join_all_spec : {M : Type 1} → statement M
join_all_spec = tie.close (tie.spec (λ c κs. search rules) (λ c κs. search rules) (λ c κs. search rules) returns)
