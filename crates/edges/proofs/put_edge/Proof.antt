-- `edges::put_edge` meets its contract: which of the two numbers comes first is the pass's. Assumes nothing.
use native.Mathlib.Omega.{arith}
use borrow.Author.Rules.{rules}
use lib.ListN.{length-set}
use Rattle.edges.proofs.Puts.{edge_across, edge_down_lem}
use Rattle.edges.proofs.put_edge.Statement.{statement}
use Rattle.edges.proofs.put_edge.Tie as tie

slice_write_out_2 : tie.Need-bounds-out-at-then-horizontal
slice_write_out_2 c = simp length-set (omega arith)

slice_write_out_4 : tie.Need-bounds-out-at-else-horizontal-2
slice_write_out_4 c = simp length-set (omega arith)

returns : tie.Need-returns-then-horizontal
returns c =
    let a = c.args in
    edge_across a.out.now a.at a.cross.0 a.along.0 c.requires.2 c.requires.3 a.horizontal c.if-horizontal.true

returns-2 : tie.Need-returns-else-horizontal
returns-2 c =
    let a = c.args in
    edge_down_lem a.out.now a.at a.cross.0 a.along.0 c.requires.2 c.requires.3 a.horizontal c.if-horizontal.false

pub put_edge_spec : {M : Type 1} → statement M
put_edge_spec =
    tie.close
    (tie.spec
    (λ c. search rules)
    (λ c. search rules)
    (λ c. search rules)
    (λ c. search rules)
    (λ c. search rules)
    (λ c. search rules)
    slice_write_out_2
    (λ c. search rules)
    (λ c. search rules)
    (λ c. search rules)
    (λ c. search rules)
    (λ c. search rules)
    (λ c. search rules)
    slice_write_out_4
    (λ c. search rules)
    returns
    (λ c. search rules)
    returns-2)
