-- `edges::root_edges` meets its contract: the list that `root_leaves` filled reads back as the root's leaves, and it does not refuse here. Assumes nothing.
use mathlib.Core.List.{List}
use mathlib.Core.Path.{refl, sym, ap, ◌∙◌, subst}
use Prim.Native.Nat.{◌+◌, ◌*◌, ◌≤◌}
use native.Mathlib.Omega.{arith}
use borrow.Author.Rules.{rules}
use lib.ListN.{length}
use Rattle.laws.specs.Orders.{each}
use Rattle.split.specs.Edges.{pass_of, edges_of, edge_numbers}
use Rattle.split.specs.Stored.{area}
use Rattle.split.specs.Walk.{Leaf}
use Rattle.split.proofs.Callers.{root_met, root_told}
use Rattle.edges.proofs.Puts.{put_as}
use Rattle.edges.proofs.RootLists.{ready_zero}
use Rattle.edges.proofs.Written.{down_zero}
use Rattle.edges.proofs.root_edges.Statement.{statement}
use Rattle.edges.proofs.root_edges.Tie as tie

returns : tie.Need-returns-in_default
returns c =
    let p = c.requires.0 in
    absurd (root_met _ _ _ p.size p.long p.walked c.args.i c.requires.1 _ _ _ refl c.root_leaves.ensures _ c.in_default.is)

leaves_edges_requires : tie.Need-leaves_edges-requires
leaves_edges_requires c κs =
    let p = c.requires.0 in
    let a = c.args in
    let t = root_told _ _ _ p.size p.long p.walked a.i c.requires.1 _ _ _ refl c.root_leaves.ensures _ c.in-Ok.is in (
      ready_zero (record { long = omega (arith, t.long, t.few); leaves = λ j h. (t.leaves j h).numbers }),
      subst (λ (m : List Leaf). a.at + 2 * area m ≤ length a.out.now) (sym t.same) c.requires.2,
    )

returns-2 : tie.Need-returns
returns-2 c =
    let p = c.requires.0 in
    let a = c.args in
    let t = root_told _ _ _ p.size p.long p.walked a.i c.requires.1 _ _ _ refl c.root_leaves.ensures _ c.in-Ok.is in
    put_as (ap (λ (m : List Leaf). each edge_numbers (edges_of (pass_of a.horizontal) a.halved m)) (down_zero _ ∙ t.same)) c.leaves_edges.ensures

pub root_edges_spec : {M : Type 1} → statement M
root_edges_spec =
    tie.close
    (tie.spec
    (λ c. search rules)
    (λ c κs. search rules)
    (λ c. search rules)
    (λ c. search rules)
    returns
    (λ c. search rules)
    leaves_edges_requires
    (λ c. search rules)
    returns-2)
