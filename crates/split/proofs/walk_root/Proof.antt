-- `split::walk_root` meets its contract: the walk of the block of 64 that root i is, over the root's own bytes. Assumes nothing.
use mathlib.Core.Path.{sym, subst}
use Prim.Native.Nat.{ℕ, ◌*◌, ◌/◌, ◌%◌, ◌<◌}
use native.Mathlib.Omega.{arith}
use borrow.Author.Rules.{rules}
use Rattle.split.proofs.Roots.{root_column, root_row, root_block, root_same, bytes_long}
use Rattle.split.proofs.Stores.{stored_as}
use Rattle.split.proofs.walk_root.Statement.{statement}
use Rattle.split.proofs.walk_root.Tie as tie

module _ (c : tie.After-roots_along-across) where
  abbrev s : tie.Start
  s = c.before.before.before

  column : 64 * (s.args.i % c.roots_along-across.result) < s.args.w
  column = subst (λ (m : ℕ). 64 * (s.args.i % m) < s.args.w) (sym c.roots_along-across.ensures) (root_column s.requires.0 s.args.i s.requires.2)

  row : 64 * (s.args.i / c.roots_along-across.result) < s.args.h
  row = subst (λ (m : ℕ). 64 * (s.args.i / m) < s.args.h) (sym c.roots_along-across.ensures) (root_row s.requires.0 s.args.i s.requires.2)

walk_block_requires : tie.Need-walk_block-requires
walk_block_requires c κs =
    let p = (s c.before.before).requires in
    (rw c.roots_along-across.ensures (root_block p.0 _ p.2), omega arith, bytes_long p.0 _ _ p.2 p.1, omega (arith, p.3))

returns : tie.Need-returns
returns c =
    let a = s c.before.before.before.before.before in
    stored_as (sym (root_same a.requires.0 a.args.splits.now a.args.i _ c.roots_along-across.ensures)) c.walk_block.ensures

pub walk_root_spec : {M : Type 1} → statement M
walk_root_spec =
    tie.close
    (tie.spec
    (λ c κs. search rules)
    (λ c. search rules)
    (λ c. search rules)
    (λ c. omega (arith, (s c).requires.0, c.roots_along-across.ensures))
    (λ c. omega (arith, (s c).requires.0, column c))
    (λ c. omega (arith, (s c).requires.0, c.roots_along-across.ensures))
    (λ c. omega (arith, (s c).requires.0, row c))
    (λ c. search rules)
    (λ c. search rules)
    (λ c. search rules)
    walk_block_requires
    (λ c. search rules)
    returns)
