-- `chroma_qp_check::second_pivots_ok` meets its contract: where there is one table its points are not read. Assumes nothing.
use borrow.Author.Rules.{rules}
use Rattle.chroma_qp_check.proofs.second_pivots_ok.Statement.{statement}
use Rattle.chroma_qp_check.proofs.second_pivots_ok.Tie as tie

pivots_ok_requires : tie.Need-pivots_ok-requires
pivots_ok_requires c κs =
    let h = c.requires in
    record { start = h.0; a_long = h.1; b_long = h.2; points = rw c.if-same_table.false at h.3 }

returns-2 : tie.Need-returns
returns-2 c = rw c.if-same_table.false c.pivots_ok.ensures

pub second_pivots_ok_spec : {M : Type 1} → statement M
second_pivots_ok_spec = tie.close (tie.spec (λ c. search rules) pivots_ok_requires returns-2)
