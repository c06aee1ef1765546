-- `driver::component::copy_block`: a turn copies one row more of the block.
use Rattle.std.proofs.Common.{arith, ℕ, ◌+◌, ◌*◌, ◌≤◌, ◌<◌, ◌∙◌, refl, le_of_eq}
use Rattle.laws.proofs.Flat.{row_below}
use Rattle.laws.proofs.Whole.{rows_none, rows_more, rows_all_lem, whole_block}
use Rattle.driver.proofs.component.copy_block.Goals as goal

-- row r of the block lies in the plane, and in the block's own list
in_plane : (y r n w long : ℕ) → r < n → (y + n) * w ≤ long → (y + r) * w + w ≤ long
in_plane y r n w long p h = row_below _ _ (y + n) _ (omega arith) h

in_block : (r n : ℕ) → r < n → r * n + n ≤ n * n
in_block r n p = row_below _ _ _ _ p (le_of_eq refl)

pub loop-r-init : goal.loop-r-init
loop-r-init c = rows_none _ _ _ _ _ _ _

pub overflow_mul-r : goal.overflow_mul-r
overflow_mul-r c = omega (arith, in_block _ _ c.loop-r-test.true)

pub overflow_mul-y : goal.overflow_mul-y
overflow_mul-y c = omega (arith, in_plane _ _ _ _ _ c.loop-r-test.true c.requires.down)

pub overflow_add-y-in-loop-r : goal.overflow_add-y-in-loop-r
overflow_add-y-in-loop-r c = omega (arith, in_plane _ _ _ _ _ c.loop-r-test.true c.requires.down, c.requires.across)

pub copy_row-requires : goal.copy_row-requires
copy_row-requires c =
    let plane = in_plane _ _ _ _ _ c.loop-r-test.true c.requires.down in
    let block = in_block _ _ c.loop-r-test.true in
    (omega (arith, block), omega (arith, plane, c.requires.across))

pub loop-r-preserved : goal.loop-r-preserved
loop-r-preserved c =
    let h = c.loop-r in
    rows_more _ _ _ _ _ _ _ _ _ h.r _ _ (omega arith) (omega arith) (omega arith) (λ j p. refl) c.copy_row.ensures h.invariant

pub returns : goal.returns
returns c = rows_all_lem _ _ _ _ _ _ _ _ c.loop-r.r _ (omega arith) c.loop-r.invariant ∙ whole_block 0 _ _ _ _ (omega (arith, c.requires.some)) c.requires.room
