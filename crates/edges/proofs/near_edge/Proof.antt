-- `edges::near_edge` meets its contract: no edge at the picture's side. Assumes nothing.
use native.Mathlib.Omega.{arith}
use borrow.Author.Rules.{rules}
use Rattle.edges.proofs.Puts.{put_none, put_as, near_none, near_some}
use Rattle.edges.proofs.near_edge.Statement.{statement}
use Rattle.edges.proofs.near_edge.Tie as tie

returns-2 : tie.Need-returns
returns-2 c =
    let a = c.args in
    put_as (near_some a.horizontal a.cross.0 a.along.0 a.n (omega arith)) c.put_stretch.ensures

pub near_edge_spec : {M : Type 1} → statement M
near_edge_spec = tie.close (tie.spec (λ c. let a = c.args in put_as (near_none a.horizontal a.cross.0 a.along.0 a.n (omega arith)) (put_none _ _)) (λ c κs. search rules) (λ c. search rules) returns-2)
