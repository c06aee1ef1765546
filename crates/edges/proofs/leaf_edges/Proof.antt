-- `edges::leaf_edges` meets its contract: the near edge, and then the one between two halves if there is one. Assumes nothing.
use native.Mathlib.Omega.{arith}
use borrow.Author.Rules.{rules}
use Rattle.edges.proofs.Puts.{put_then, put_as, leaf_plain, leaf_halves, near_room, half_starts, half_room, whole_root}
use Rattle.edges.proofs.leaf_edges.Statement.{statement}
use Rattle.edges.proofs.leaf_edges.Tie as tie

near_edge_requires : tie.Need-near_edge-k-requires
near_edge_requires c κs =
    (c.requires.0, near_room _ _ c.args.side c.requires.2 c.requires.3)

put_stretch_requires : tie.Need-put_stretch-requires
put_stretch_requires c κs =
    let a = c.args in
    let e = whole_root a.halved a.side c.if-halved-side.true in
    let n = c.near_edge-k in (
      half_starts _ _ _ c.requires.0 c.requires.1 e,
      half_room a.horizontal a.cross.0 a.along.0 a.at _ _ a.side e n.ensures.count (omega (arith, c.requires.3, n.auto.out)),
    )

returns : tie.Need-returns-then-halved-side
returns c =
    let a = c.args in
    put_as (leaf_halves a.horizontal a.cross.0 a.along.0 a.halved a.side c.if-halved-side.true)
    (put_then c.near_edge-k.ensures c.put_stretch.ensures)

returns-2 : tie.Need-returns
returns-2 c =
    let a = c.args in
    put_as (leaf_plain a.horizontal a.cross.0 a.along.0 a.halved a.side c.if-halved-side.false) c.near_edge-k.ensures

pub leaf_edges_spec : {M : Type 1} → statement M
leaf_edges_spec =
    tie.close
    (tie.spec
    near_edge_requires
    (λ c. search rules)
    put_stretch_requires
    (λ c. search rules)
    returns
    (λ c. search rules)
    returns-2)
