-- `df::pass::root_edges` meets its contract: the walk was accepted, so the call lists the root's edges. Assumes nothing.
use Prim.Native.Nat.{ℕ, ◌*◌, ◌/◌, ◌%◌, ◌<◌}
use mathlib.Core.Path.{sym, subst}
use native.Mathlib.Omega.{arith}
use borrow.Author.Rules.{rules}
use Rattle.def.proofs.Sizes.{Sized, sized}
use Rattle.split.proofs.Roots.{root_column, root_row}
use Rattle.edge_filter.specs.Edges.{pass_of}
use Rattle.df.proofs.Listed.{list_met, listed_root}
use Rattle.df.proofs.pass.root_edges.Statement.{statement}
use Rattle.df.proofs.pass.root_edges.Tie as tie

module _ (c : tie.After-roots_along-across) where
  abbrev s : tie.Start
  s = c.before.before.before

  size : Sized s.args.shape.w s.args.shape.h
  size = sized _ _ s.requires.0.size

  column : 64 * (s.args.i % c.roots_along-across.result) < s.args.shape.w
  column = subst (λ (m : ℕ). 64 * (s.args.i % m) < s.args.shape.w) (sym c.roots_along-across.ensures) (root_column size s.args.i s.requires.1)

  row : 64 * (s.args.i / c.roots_along-across.result) < s.args.shape.h
  row = subst (λ (m : ℕ). 64 * (s.args.i / m) < s.args.shape.h) (sym c.roots_along-across.ensures) (root_row size s.args.i s.requires.1)

returns : tie.Need-returns-in-Ok
returns c =
    let k = c.is_horizontal in
    listed_root c.requires.0 c.args.i c.requires.1 k.result c.args.shape.halved c.args.shape.top c.requires.3 _ c.requires.2 _ _
    (rw c.roots_along-across.ensures at c.root_list.ensures) (pass_of c.args.pass) _ k.ensures c.in-Ok.is

returns-2 : tie.Need-returns-in-Err
returns-2 c =
    let k = c.is_horizontal in
    absurd (list_met c.requires.0 c.args.i c.requires.1 k.result c.args.shape.halved c.args.shape.top c.requires.3 _ c.requires.2 _ _
    (rw c.roots_along-across.ensures at c.root_list.ensures) _ c.in-Err.is)

pub root_edges_spec : {M : Type 1} → statement M
root_edges_spec =
    tie.close
    (tie.spec (λ c κs. search rules) (λ c. omega (arith, (size c).some_wide, c.roots_along-across.ensures))
    (λ c. omega (arith, column c, (size c).wide)) (λ c. omega (arith, (size c).some_wide, c.roots_along-across.ensures))
    (λ c. omega (arith, row c, (size c).high)) (λ c κs. search rules)
    (λ c κs. search rules) (λ c. search rules) (λ c. search rules) (λ c. search rules) returns (λ c. search rules) returns-2)
