-- `unit_edits::put_edges` meets its contract: the unit's own two edges, and then those of its neighbours. Assumes nothing.
use mathlib.Core.Path.{refl, ap, ◌∙◌}
use native.Mathlib.Omega.{arith}
use borrow.Author.Rules.{rules}
use lib.ListN.{length}
use Rattle.rows_rules.proofs.Edits.{length_put, four_edges}
use Rattle.rows_rules.proofs.Sides.{unit_in_map, own_left, own_top}
use Rattle.unit_edits.proofs.put_edges.Statement.{statement}
use Rattle.unit_edits.proofs.put_edges.Tie as tie

mul_k : tie.Need-overflow_mul-k
mul_k c = omega (arith, unit_in_map c.requires.1, c.requires.0.few)

add_k : tie.Need-overflow_add-k
add_k c = omega (arith, unit_in_map c.requires.1, c.requires.0.few)

put_edge_requires : tie.Need-put_edge-requires
put_edge_requires c κs = let p = c.requires in (p.0, unit_in_map p.1, own_left p.1, p.2)

put_edge_requires_2 : tie.Need-put_edge-requires-2
put_edge_requires_2 c κs =
    let p = c.requires in
    (p.0, unit_in_map p.1, own_top p.1, ap length c.put_edge.ensures ∙ length_put _ _ _ _ _ _ _ ∙ p.2)

put_nexts_requires : tie.Need-put_nexts-requires
put_nexts_requires c κs =
    let two = c.put_edge-2.ensures in
    let one = c.put_edge.ensures in
    let p = c.requires in
    (p.0, p.1, ap length two ∙ length_put _ _ _ _ _ _ _ ∙ ap length one ∙ length_put _ _ _ _ _ _ _ ∙ p.2)

returns : tie.Need-returns
returns c =
    let three = c.put_nexts.ensures in
    let two = c.put_edge-2.ensures in
    let one = c.put_edge.ensures in
    let p = c.requires in
    four_edges _ _ _ _ p.1 _ p.2 _ _ _ _ one two refl three

pub put_edges_spec : {M : Type 1} → statement M
put_edges_spec = tie.close (tie.spec mul_k add_k put_edge_requires put_edge_requires_2 put_nexts_requires (λ c. search rules) returns)
