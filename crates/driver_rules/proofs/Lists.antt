-- The leaves of a root as `split::leaves` lists them: each is a block of the picture, in luma samples.
--     block_passes, leaf_block    a leaf of the walk is a block that the calls accept
--     listed    of an accepted picture the call's list holds the root's leaves, each a block
-- Assumes nothing.
use Prim.Native.Nat.{ℕ, zero, suc, ◌+◌, ◌*◌, ◌/◌, ◌%◌, ◌^◌, ◌≤◌}
use mathlib.Core.Path.{◌≡◌, refl}
use mathlib.Core.Bool.{true}
use mathlib.Core.List.{List}
use native.Mathlib.Omega.{arith}
use borrow.Author.Tests.{eq-eqb, le-leb}
use Rattle.def.specs.Blocks.{block_side_ok, block_ok}
use Rattle.split.proofs.Callers.{RootTold}
use Rattle.split.proofs.Ranks.{in_picture}
use Rattle.driver_rules.specs.Asked.{Listed}

-- ---- a block of the picture

pub block_passes : (w h x y side : ℕ) → block_side_ok side ≡ true → x % side ≡ 0 → y % side ≡ 0 → x + side ≤ w → y + side ≤ h → block_ok w h x y side ≡ true
unfolding block_ok
block_passes w h x y side s a b c d = rw (s, eq-eqb _ _ a, eq-eqb _ _ b, le-leb _ _ c, le-leb _ _ d)

-- of a side of 2 ^ log units, at (x, y) in luma
pub leaf_block : (w h log x y side : ℕ) → log ≤ 4 → x % 4 ≡ 0 → y % 4 ≡ 0 → x / 4 % 2 ^ log ≡ 0 → y / 4 % 2 ^ log ≡ 0 → side ≡ 4 * 2 ^ log
    → x / 4 + 2 ^ log ≤ w / 4 → y / 4 + 2 ^ log ≤ h / 4 → block_ok w h x y side ≡ true
unfolding block_side_ok
leaf_block w h zero x y side s p q a b e c d = rw e (block_passes w h x y 4 refl (omega arith) (omega arith) (omega arith) (omega arith))
leaf_block w h (suc zero) x y side s p q a b e c d = rw e (block_passes w h x y 8 refl (omega arith) (omega arith) (omega arith) (omega arith))
leaf_block w h (suc (suc zero)) x y side s p q a b e c d = rw e (block_passes w h x y 16 refl (omega arith) (omega arith) (omega arith) (omega arith))
leaf_block w h (suc (suc (suc zero))) x y side s p q a b e c d = rw e (block_passes w h x y 32 refl (omega arith) (omega arith) (omega arith) (omega arith))
leaf_block w h (suc (suc (suc (suc zero)))) x y side s p q a b e c d = rw e (block_passes w h x y 64 refl (omega arith) (omega arith) (omega arith) (omega arith))
leaf_block w h (suc (suc (suc (suc (suc log))))) x y side s p q a b e c d = absurd (omega arith)

-- ---- the leaves of a root

pub listed : {w h : ℕ} {s : List ℕ} {i : ℕ} {list : List ℕ} {n : ℕ} → RootTold w h s i list n → Listed w h s i list n
listed {w = w} {h = h} t =
    record {
      same = t.same;
      blocks = record {
        long = t.long;
        few = t.few;
        blocks = λ j m.
            let b = t.leaves j m in
            let k = b.stands in
            let p = k.power in
            leaf_block w h k.log _ _ _ k.spot.level b.numbers.column b.numbers.row (in_picture k.log _ k.spot.level k.spot.column)
            (in_picture k.log _ k.spot.level k.spot.row)
            (omega (arith, b.numbers.units)) (omega (arith, b.columns)) (omega (arith, b.rows));
      };
    }
