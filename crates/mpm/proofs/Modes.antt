-- What an input of the mode ranks that no check refuses is.
--     accepted    the unit, the two modes that are consulted, and the table
--     left_ok, up_ok, mode_small, index_small    modes that pass
-- Assumes nothing.
use Rattle.std.specs.Prelude.{Ok}
use Prim.Native.Nat.{ℕ, ◌/◌, ◌≤◌, ◌<◌}
use mathlib.Core.Path.{◌≡◌, refl, sym, ◌∙◌}
use mathlib.Core.Bool.{Bool, true, false, ◌||◌}
use mathlib.Core.List.{List, [], ◌∷◌}
use native.Mathlib.Omega.{arith}
use borrow.Author.Tests.{eqb-true, leb-true}
use lib.Dec.{leb, eqb}
use lib.ListN.{length}
use Rattle.laws.proofs.Calls.{all_at}
use Rattle.def.specs.Picture.{size_ok}
use Rattle.def.specs.declared.Refusal.TheVariants.{Size, Length, Block, Mode}
use Rattle.def.proofs.Ladders.{passes}
use Rattle.def.proofs.Blocks.{placed}
use Rattle.mpm.specs.Ranks.{Input, UnitOf, left_mode, up_mode, mode_ok, modes_ok, mode_index, length_tests, lengths_ok, check}

-- maps of the picture's length, and one of its units
pub unit_of_lem : (w h : ℕ) (words modes : List ℕ) (table x y : ℕ) → lengths_ok w h (length words) (length modes) table ≡ true → x < w / 4 → y < h / 4 → UnitOf w h words modes x y
unfolding lengths_ok
unit_of_lem w h words modes table x y e p q =
    let tests = length_tests w h (length words) (length modes) table in
    record { words_long = eqb-true _ _ (all_at tests 0 e); modes_long = eqb-true _ _ (all_at tests 1 e); column = p; row = q }

table_whole : (w h words modes table : ℕ) → lengths_ok w h words modes table ≡ true → table ≡ 180
unfolding lengths_ok
table_whole w h words modes table e = eqb-true table 180 (all_at (length_tests w h words modes table) 2 e)

pub record Accepted (i : Input) : Type 0 where
  pub unit : UnitOf i.w i.h i.words i.modes i.x i.y
  pub modes_ok_lem : modes_ok i.w i.words i.modes i.x i.y ≡ true
  pub table_long : length i.table ≡ 180

pub accepted : (i : Input) → check i ≡ Ok tt → Accepted i
unfolding check
accepted i e =
    let p = passes (size_ok i.w i.h) Size _ e in
    let q = passes _ Length _ p.rest in
    let r = passes _ Block _ q.rest in
    let s = passes _ Mode _ r.rest in
    let k = placed _ _ _ _ r.holds in
    record {
      unit = unit_of_lem _ _ _ _ _ _ _ q.holds k.column k.row;
      modes_ok_lem = s.holds;
      table_long = table_whole _ _ _ _ _ q.holds;
    }

-- ---- modes that pass

module _ (w : ℕ) (words modes : List ℕ) (x y : ℕ) (e : modes_ok w words modes x y ≡ true) where
  abbrev tests : List Bool
  tests = mode_ok (left_mode w words modes x y) ∷ mode_ok (up_mode w words modes x y) ∷ []

  pub left_ok : mode_ok (left_mode w words modes x y) ≡ true
  unfolding modes_ok
  left_ok = all_at tests 0 e

  pub up_ok : mode_ok (up_mode w words modes x y) ≡ true
  unfolding modes_ok
  up_ok = all_at tests 1 e

or_left : (a b : Bool) → b ≡ false → (a || b) ≡ true → a ≡ true
or_left true b f e = refl
or_left false b f e = sym f ∙ e

-- a mode that passes and is not none
pub mode_small : (mode : ℕ) → eqb mode 255 ≡ false → mode_ok mode ≡ true → mode ≤ 4
mode_small mode f e = leb-true mode 4 (or_left (leb mode 4) (eqb mode 255) f e)

pub index_small : (mode : ℕ) → mode_ok mode ≡ true → mode_index mode ≤ 5
index_small mode e = go (eqb mode 255) refl where
  go : (b : Bool) → eqb mode 255 ≡ b → mode_index mode ≤ 5
  go true f = rw f (omega arith)
  go false f = rw f (omega (arith, mode_small mode f e))
