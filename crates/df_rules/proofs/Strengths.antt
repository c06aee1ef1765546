-- A strength row is one of four.
-- Assumes nothing.
use Prim.Native.Nat.{ℕ, ◌≤◌}
use mathlib.Core.Bool.{Bool, true, false, ◌||◌}
use native.Mathlib.Omega.{arith}
use lib.ListN.{get_or}
use Rattle.def.specs.Word.{intra_of, coded_of}
use Rattle.laws.specs.Index.{pick}
use Rattle.line.specs.declared.Motion.{Motion}
use Rattle.line.specs.Row.{same_refs, any_far, crosswise, motion_row, row_of}
use Rattle.df_rules.specs.Strength.{Maps, motion_at, row_by, row_at}

either : (b : Bool) (m n : ℕ) → m ≤ 3 → n ≤ 3 → pick b m n ≤ 3
either true m n h g = h
either false m n h g = g

apart : (b : Bool) → pick b 2 3 ≤ 3
apart b = either b 2 3 (omega arith) (omega arith)

motion_few : (q p : Motion) → motion_row q p ≤ 3
unfolding motion_row
motion_few q p =
    let c = crosswise p in
    either (same_refs q p) (pick (any_far q p) 2 3) (pick (same_refs q c) (pick (any_far q c) 2 3) 2) (apart (any_far q p))
    (either (same_refs q c) (pick (any_far q c) 2 3) 2 (apart (any_far q c)) (omega arith))

few : (q p : ℕ) (m n : Motion) → row_of q p m n ≤ 3
unfolding row_of
few q p m n =
    either (intra_of q || intra_of p) 0 (pick (coded_of q || coded_of p) 1 (motion_row m n)) (omega arith)
    (either (coded_of q || coded_of p) 1 (motion_row m n) (omega arith) (motion_few m n))

pub row_few : (m : Maps) (q p : ℕ) → row_at m q p ≤ 3
unfolding row_by
row_few m q p = few (get_or m.words q 0) (get_or m.words p 0) (motion_at m.over.motion m.over.refs q) (motion_at m.over.motion m.over.refs p)
