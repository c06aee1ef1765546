-- `unit_edits::put_nexts` meets its contract: the right neighbour's left edge, and then the lower one's top edge. Assumes nothing.
use Prim.Native.Nat.{ℕ, ◌+◌, ◌*◌}
use mathlib.Core.Path.{ap, ◌∙◌}
use mathlib.Core.List.{List}
use native.Mathlib.Omega.{arith}
use borrow.Author.Rules.{rules}
use borrow.Author.Tests.{ltb-true}
use lib.Dec.{ltb}
use Rattle.laws.specs.Index.{pick}
use Rattle.split.specs.Edges.{vertical, horizontal}
use Rattle.rows_rules.specs.Inside.{edge_put}
use Rattle.rows_rules.proofs.Edits.{long_if}
use Rattle.rows_rules.proofs.Sides.{unit_in_map, right_in, right_side, lower_in, lower_side}
use Rattle.unit_edits.proofs.put_nexts.Statement.{statement}
use Rattle.unit_edits.proofs.put_nexts.Tie as tie

mul_k : tie.Need-overflow_mul-k
mul_k c = let p = c.requires in omega (arith, unit_in_map p.1, p.0.few)

add_k : tie.Need-overflow_add-k
add_k c = let p = c.requires in omega (arith, unit_in_map p.1, p.0.few)

add_put_next_2 : tie.Need-overflow_add-k-2
add_put_next_2 c = let p = c.requires in omega (arith, unit_in_map p.1, p.0.few)

put_next_requires : tie.Need-put_next-requires
put_next_requires c κs = let p = c.requires in (p.0, (λ e. (right_in p.1 (ltb-true _ _ e), right_side p.1 ∙ e)), p.2)

add_put_next_4 : tie.Need-overflow_add-k-3
add_put_next_4 c = let p = c.requires in omega (arith, unit_in_map p.1, p.0.few, p.0.wide)

put_next_requires_2 : tie.Need-put_next-requires-2
put_next_requires_2 c κs =
    let p = c.requires in
    let m = long_if _ _ _ _ (ltb (c.args.x.0 + 1) c.args.columns) vertical _ _ _ c.put_next.ensures ∙ p.2 in
    (p.0, (λ e. (lower_in p.1 (ltb-true _ _ e), lower_side p.1)), m)

returns : tie.Need-returns
returns c =
    let a = c.args in
    let lower = edge_put a.words.now a.motion.now a.refs.now a.columns horizontal (a.y.0 * a.columns + a.x.0 + a.columns) in
    c.put_next-2.ensures ∙ ap (λ (l : List ℕ). pick (ltb (a.y.0 + 1) a.lines) (lower l) l) c.put_next.ensures

pub put_nexts_spec : {M : Type 1} → statement M
put_nexts_spec =
    tie.close
    (tie.spec mul_k add_k (λ c. search rules) add_put_next_2 put_next_requires (λ c. search rules) add_put_next_4 put_next_requires_2 (λ c. search rules) returns)
