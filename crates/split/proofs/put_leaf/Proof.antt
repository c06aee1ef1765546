-- `split::put_leaf` meets its contract: a leaf past the picture leaves the list, and one inside is stored after the others. Assumes nothing.
use native.Mathlib.Omega.{arith}
use borrow.Author.Rules.{rules}
use lib.ListN.{length-set}
use Rattle.split.proofs.Blocks.{past_x, past_y, inside, column_back, row_back}
use Rattle.split.proofs.Stores.{stored_refused, stored_one, stored_as}
use Rattle.split.proofs.put_leaf.Statement.{statement}
use Rattle.split.proofs.put_leaf.Tie as tie

returns : tie.Need-returns-then-w-at
returns c = stored_as (past_x c.requires.0 c.if-w-at.true) (stored_refused _ _ _)

returns-2 : tie.Need-returns-then-h-at
returns-2 c = stored_as (past_y c.requires.0 c.if-w-at.false c.if-h-at.true) (stored_refused _ _ _)

slice_write_out_2 : tie.Need-bounds-out-first-2
slice_write_out_2 c = simp length-set (omega arith)

slice_write_out_3 : tie.Need-bounds-out-first-3
slice_write_out_3 c = simp length-set (omega arith)

returns-3 : tie.Need-returns
returns-3 c =
    let b = c.requires.0 in
    stored_as (inside b c.if-w-at.false c.if-h-at.false) (stored_one _ _ _ _ _ _ (column_back b) (row_back b) b.power)

pub put_leaf_spec : {M : Type 1} → statement M
put_leaf_spec =
    tie.close
    (tie.spec
    (λ c. search rules)
    returns
    (λ c. search rules)
    returns-2
    (λ c. search rules)
    (λ c. search rules)
    (λ c. search rules)
    (λ c. search rules)
    (λ c. search rules)
    (λ c. search rules)
    (λ c. search rules)
    slice_write_out_2
    (λ c. search rules)
    (λ c. search rules)
    (λ c. search rules)
    slice_write_out_3
    (λ c. search rules)
    (λ c. search rules)
    returns-3)
