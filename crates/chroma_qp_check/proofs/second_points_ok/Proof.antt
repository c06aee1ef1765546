-- `chroma_qp_check::second_points_ok` meets its contract: where there is one table its points are not read. Assumes nothing.
use borrow.Author.Rules.{rules}
use Rattle.chroma_qp_check.proofs.second_points_ok.Statement.{statement}
use Rattle.chroma_qp_check.proofs.second_points_ok.Tie as tie

returns-2 : tie.Need-returns
returns-2 c = rw c.if-same_table.false c.points_ok.ensures

pub second_points_ok_spec : {M : Type 1} → statement M
second_points_ok_spec = tie.close (tie.spec (λ c. search rules) (λ c κs. search rules) returns-2)
