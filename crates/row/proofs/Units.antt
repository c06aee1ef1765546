-- Units of the maps: what the test tells, and what `row_at` answers by it; and two units that move alike.
--     unit_there, in_maps_lem    the test passes exactly where the maps hold the unit
--     none_q, none_p, both_there    the answer, by what the two tests found
--     row_in_lem    of two units of the maps it is the rule's
--     alike    the same references and motion, and so row 3 by motion
-- Assumes nothing.
use Prim.Native.Nat.{ℕ, ◌+◌, ◌*◌, ◌/◌, ◌<◌}
use mathlib.Core.Path.{◌≡◌, sym, ap, ◌∙◌}
use mathlib.Core.Bool.{Bool, true, false}
use mathlib.Core.List.{List, [], ◌∷◌}
use native.Mathlib.Omega.{arith}
use borrow.Author.Tests.{ltb-true, lt-ltb}
use lib.Dec.{ltb}
use lib.IntN.{ℤ, pos}
use lib.ListN.{length, get_or}
use Rattle.laws.specs.Call.{all_of}
use Rattle.laws.proofs.Bools.{and_false}
use Rattle.laws.proofs.Calls.{all_at}
use Rattle.line.specs.Row.{eq_z, motion_row}
use Rattle.line.proofs.Rows.{eq_z_same, motion_self}
use Rattle.df_rules.specs.Strength.{motion_at, row_by}
use Rattle.row.specs.Between.{in_maps, row_in, same_refs, same_motion, There}

module _ (words : List ℕ) (motion refs : List ℤ) where
  pub unit_there : (k : ℕ) → in_maps (length words) (length motion) (length refs) k ≡ true → There words motion refs k
  unfolding in_maps
  unit_there k e =
      let tests = ltb k (length words) ∷ ltb k (length motion / 4) ∷ ltb k (length refs / 2) ∷ [] in
      let a = ltb-true k (length words) (all_at tests 0 e) in
      let b = ltb-true k (length motion / 4) (all_at tests 1 e) in
      let c = ltb-true k (length refs / 2) (all_at tests 2 e) in
      record { word = a; mv = omega arith; refi = omega arith }

  pub in_maps_lem : (k : ℕ) → There words motion refs k → in_maps (length words) (length motion) (length refs) k ≡ true
  unfolding in_maps
  in_maps_lem k u =
      let b : k < length motion / 4 = omega (arith, u.mv) in
      let c : k < length refs / 2 = omega (arith, u.refi) in
      rw (lt-ltb k (length words) u.word, lt-ltb k (length motion / 4) b, lt-ltb k (length refs / 2) c)

  module _ (q p : ℕ) where
    pub none_q : in_maps (length words) (length motion) (length refs) q ≡ false → 0 ≡ row_in words motion refs q p
    unfolding row_in
    none_q e = rw e

    pub none_p : in_maps (length words) (length motion) (length refs) p ≡ false → 0 ≡ row_in words motion refs q p
    unfolding row_in
    none_p e = rw (and_false (in_maps (length words) (length motion) (length refs) q) (in_maps (length words) (length motion) (length refs) p) e)

    pub both_there : in_maps (length words) (length motion) (length refs) q ≡ true → in_maps (length words) (length motion) (length refs) p ≡ true
        → row_by words motion refs q p ≡ row_in words motion refs q p
    unfolding row_in
    both_there e f = rw (e, f)

    -- of two units of the maps it is the rule's
    pub row_in_lem : There words motion refs q → There words motion refs p → row_in words motion refs q p ≡ row_by words motion refs q p
    row_in_lem a b = sym (both_there (in_maps_lem q a) (in_maps_lem p b))

pub alike : (motion refs : List ℤ) (q p : ℕ) (r m : Bool) → r ≡ same_refs refs q p → r ≡ true → m ≡ same_motion motion q p → m ≡ true
    → 3 ≡ motion_row (motion_at motion refs q) (motion_at motion refs p)
unfolding same_refs same_motion
alike motion refs q p r m er r₁ em m₁ =
    let ref : ℕ → ℕ → Bool = λ a b. eq_z (get_or refs a (pos 0)) (get_or refs b (pos 0)) in
    let number : ℕ → ℕ → Bool = λ a b. eq_z (get_or motion a (pos 0)) (get_or motion b (pos 0)) in
    let rs = ref (2 * q) (2 * p) ∷ ref (2 * q + 1) (2 * p + 1) ∷ [] in
    let ms = number (4 * q) (4 * p) ∷ number (4 * q + 1) (4 * p + 1) ∷ number (4 * q + 2) (4 * p + 2) ∷ number (4 * q + 3) (4 * p + 3) ∷ [] in
    let a : all_of rs ≡ true = sym er ∙ r₁ in
    let b : all_of ms ≡ true = sym em ∙ m₁ in
    let refi₀ : get_or refs (2 * q) (pos 0) ≡ get_or refs (2 * p) (pos 0) = eq_z_same _ _ (all_at rs 0 a) in
    let refi₁ : get_or refs (2 * q + 1) (pos 0) ≡ get_or refs (2 * p + 1) (pos 0) = eq_z_same _ _ (all_at rs 1 a) in
    let x₀ : get_or motion (4 * q) (pos 0) ≡ get_or motion (4 * p) (pos 0) = eq_z_same _ _ (all_at ms 0 b) in
    let y₀ : get_or motion (4 * q + 1) (pos 0) ≡ get_or motion (4 * p + 1) (pos 0) = eq_z_same _ _ (all_at ms 1 b) in
    let x₁ : get_or motion (4 * q + 2) (pos 0) ≡ get_or motion (4 * p + 2) (pos 0) = eq_z_same _ _ (all_at ms 2 b) in
    let y₁ : get_or motion (4 * q + 3) (pos 0) ≡ get_or motion (4 * p + 3) (pos 0) = eq_z_same _ _ (all_at ms 3 b) in
    let same : motion_at motion refs q ≡ motion_at motion refs p =
    λ i. record { refi0 = refi₀ i; refi1 = refi₁ i; x0 = x₀ i; y0 = y₀ i; x1 = x₁ i; y1 = y₁ i } in
    sym (motion_self (motion_at motion refs q)) ∙ ap (motion_row (motion_at motion refs q)) same
