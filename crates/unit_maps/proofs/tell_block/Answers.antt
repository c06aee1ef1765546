-- `unit_maps::tell_block`: one unit is one row, and else a turn tells one row more of the block.
use Rattle.std.proofs.Common.{arith, ◌≡◌, ℕ, ◌+◌, ◌*◌, ◌≤◌, ◌<◌, refl}
use Rattle.laws.proofs.Flat.{row_below}
use Rattle.laws.proofs.Whole.{rows_none, rows_more, rows_all_lem}
use Rattle.unit_maps.specs.Maps.{maps_of}
use Rattle.unit_maps.proofs.Inside.{one_told}
use Rattle.unit_maps.proofs.tell_block.Goals as goal

-- row r of a block of n rows lies in a map
row_in : (y r n columns l : ℕ) → r < n → (y + n) * columns ≤ l → (y + r) * columns + columns ≤ l
row_in y r n columns l p h = row_below (y + r) columns (y + n) l (omega arith) h

-- the one row of a block of one unit
one_in : (y n columns l : ℕ) → n ≡ 1 → (y + n) * columns ≤ l → y * columns + columns ≤ l
one_in y n columns l e h = row_below y columns (y + n) l (omega arith) h

pub overflow_mul-at : goal.overflow_mul-at
overflow_mul-at c = omega (arith, one_in _ _ _ _ c.if-n-eq1.true c.requires.in_words)

pub overflow_add-at : goal.overflow_add-at
overflow_add-at c = omega (arith, one_in _ _ _ _ c.if-n-eq1.true c.requires.in_words, c.requires.right)

pub tell_row-requires : goal.tell_row-requires
tell_row-requires c =
    let p = c.requires in
    let one = c.if-n-eq1.true in (
      omega (arith, one_in _ _ _ _ one p.in_words, p.right),
      omega (arith, one_in _ _ _ _ one p.in_modes, p.right),
      omega (arith, one_in _ _ _ _ one p.in_keep, p.right),
    )

pub returns-then-n-eq1 : goal.returns-then-n-eq1
returns-then-n-eq1 c =
    let right = c.requires.right in
    let one = c.if-n-eq1.true in
    let some : 0 < c.args.columns = omega (arith, right) in
    let e = c.tell_row.ensures in
    λ i. maps_of (one_told _ _ _ _ _ _ _ one right some e.0 i) (one_told _ _ _ _ _ _ _ one right some e.1 i) (one_told _ _ _ _ _ _ _ one right some e.2 i)

pub loop-r-init : goal.loop-r-init
loop-r-init c = (rows_none _ _ _ _ _ _ _, rows_none _ _ _ _ _ _ _, rows_none _ _ _ _ _ _ _)

pub overflow_mul-at-in-loop-r : goal.overflow_mul-at-in-loop-r
overflow_mul-at-in-loop-r c = omega (arith, row_in _ _ _ _ _ c.loop-r-test.true c.requires.in_words)

pub overflow_add-at-in-loop-r : goal.overflow_add-at-in-loop-r
overflow_add-at-in-loop-r c = omega (arith, row_in _ _ _ _ _ c.loop-r-test.true c.requires.in_words, c.requires.right)

pub tell_row-requires-in-loop-r : goal.tell_row-requires-in-loop-r
tell_row-requires-in-loop-r c =
    let l = c.loop-r.invariant in
    let p = c.requires in
    let there = c.loop-r-test.true in (
      omega (arith, row_in _ _ _ _ _ there p.in_words, l.0.long, p.right),
      omega (arith, row_in _ _ _ _ _ there p.in_modes, l.1.long, p.right),
      omega (arith, row_in _ _ _ _ _ there p.in_keep, l.2.long, p.right),
    )

pub loop-r-preserved : goal.loop-r-preserved
loop-r-preserved c =
    let h = c.loop-r in
    let right = c.requires.right in
    let some : 0 < c.args.columns = omega (arith, right, c.loop-r-test.true) in
    let e = c.tell_row-in-loop-r.ensures in (
      rows_more _ _ _ _ _ _ _ _ _ h.r _ _ right some refl (λ j p. refl) e.0 h.invariant.0,
      rows_more _ _ _ _ _ _ _ _ _ h.r _ _ right some refl (λ j p. refl) e.1 h.invariant.1,
      rows_more _ _ _ _ _ _ _ _ _ h.r _ _ right some refl (λ j p. refl) e.2 h.invariant.2,
    )

pub returns : goal.returns
returns c =
    let h = c.loop-r in
    let all : h.r ≡ c.args.n = omega arith in
    λ i. maps_of (rows_all_lem _ _ _ _ _ _ _ _ h.r _ all h.invariant.0 i) (rows_all_lem _ _ _ _ _ _ _ _ h.r _ all h.invariant.1 i)
    (rows_all_lem _ _ _ _ _ _ _ _ h.r _ all h.invariant.2 i)
