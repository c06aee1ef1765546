-- Where a root stands in the picture, in units and in luma samples, and the order of the roots.
-- Assumes nothing.
use mathlib.Core.List.{List}
use mathlib.Core.Logic.{◌⊎◌, inl, inr}
use mathlib.Core.Path.{◌≡◌, refl, ap}
use Prim.Native.Nat.{ℕ, suc, ◌+◌, ◌-◌, ◌*◌, ◌/◌, ◌%◌, ◌≤◌, ◌<◌}
use native.Mathlib.Nat.{mod-lt, div-lt_iff_lt-mul, mul_comm, mul-le-mul, div-add-mod', mul-le-mul_right, suc-mul}
use native.Mathlib.Omega.{arith}
use borrow.Author.Tests.{ltb-true, ltb-false, eqb-true, eqb-false}
use lib.Arith.{digits_div, digits_mod, digits_lt}
use lib.Dec.{ltb, eqb}
use lib.ListN.{length, take, drop, length-take, length-drop}
use Rattle.def.specs.Picture.{roots_along, root_count}
use Rattle.def.proofs.Sizes.{Sized}
use Rattle.split.specs.Picture.{across, roots, root_x, root_y, root_walk}
use Rattle.split.specs.Stored.{Block}
use Rattle.split.specs.Walk.{walk}
use Rattle.split.proofs.Induct.{test}

pub column_in : (w i : ℕ) → 1 ≤ w → root_x w i < w
column_in w i h =
    let l : i % across w < across w = mod-lt i (omega arith) in
    omega arith

pub row_in_lem : (w h i : ℕ) → 1 ≤ w → i < roots w h → root_y w i < h
row_in_lem w h i a b =
    let l : i / across w < across h = (div-lt_iff_lt-mul {k = across w} {x = i} {y = across h} (omega arith)).1 (rw (mul_comm (across h) (across w)) b) in
    omega arith

-- of two roots, the later stands in a row below, or right of the earlier in its row
pub later_root : (i n m : ℕ) → 0 < m → i < n → (i / m < n / m) ⊎ ((i / m ≡ n / m) × (i % m < n % m))
later_root i n m pos l =
    let p = div-add-mod' i m in
    let q = div-add-mod' n m in
    test (ltb (i / m) (n / m)) (λ t. inl (ltb-true (i / m) (n / m) t))
    (λ t. let g : n / m ≤ i / m = ltb-false (i / m) (n / m) t in
    let u : i % m < m = mod-lt i pos in
    let v : n % m < m = mod-lt n pos in
    test (eqb (i / m) (n / m))
    (λ e. let e' = eqb-true (i / m) (n / m) e in let r = ap (λ (k : ℕ). k * m) e' in inr (e', omega arith))
    (λ e. let ne = eqb-false (i / m) (n / m) e in
    let o : suc (n / m) * m ≤ i / m * m = mul-le-mul_right m (omega arith) in
    let y = suc-mul (n / m) m in absurd (omega arith)))

-- the root in column c and row r of the roots
pub record RootAt (w h c r : ℕ) : Type 0 where
  pub inside : r * across w + c < roots w h
  pub column : (r * across w + c) % across w ≡ c
  pub row : (r * across w + c) / across w ≡ r

pub root_at : (w h c r : ℕ) → c < across w → r < across h → RootAt w h c r
root_at w h c r p q = record {
  inside = rw (mul_comm (across w) (across h)) (digits_lt q p);
  column = digits_mod r p;
  row = digits_div r p;
}

-- ---- roots in luma samples

pub few_roots : (w h : ℕ) → w ≤ 4096 → h ≤ 4096 → root_count w h ≤ 4096
few_roots w h a b = mul-le-mul {n₁ = roots_along w} {m₁ = roots_along h} {n₂ = 64} {m₂ = 64} (omega arith) (omega arith)

module _ {w h : ℕ} (z : Sized w h) where
  pub across_units : across (w / 4) ≡ roots_along w
  across_units = omega arith

  pub roots_units : roots (w / 4) (h / 4) ≡ root_count w h
  roots_units = let a = across_units in let b : across (h / 4) ≡ roots_along h = omega arith in rw (a, b)

  pub some_wide : 1 ≤ w / 4
  some_wide = omega arith

  pub few_units : w / 4 * (h / 4) ≤ 1048576
  few_units = mul-le-mul {n₁ = w / 4} {m₁ = h / 4} {n₂ = 1024} {m₂ = 1024} (omega arith) (omega arith)

  -- the place of a number: its column lies in the picture, and its row below it where no root has the number
  pub number_column : (i : ℕ) → 64 * (i % roots_along w) < w
  number_column i = let e = across_units in let c = column_in (w / 4) i some_wide in let c' : 16 * (i % roots_along w) < w / 4 = rw e at c in omega arith

  pub number_below : (i : ℕ) → root_count w h ≤ i → h ≤ 64 * (i / roots_along w)
  number_below i l =
      test (ltb (i / roots_along w) (roots_along h))
      (λ t. let g = (div-lt_iff_lt-mul {k = roots_along w} {x = i} {y = roots_along h} (omega arith)).0 (ltb-true _ _ t) in absurd (omega (arith, mul_comm (roots_along h) (roots_along w))))
      (λ t. let g = ltb-false (i / roots_along w) (roots_along h) t in omega arith)

  -- root i stands on a multiple of 64, inside
  module _ (i : ℕ) (l : i < root_count w h) where
    pub root_column : 64 * (i % roots_along w) < w
    root_column = number_column i

    pub root_row : 64 * (i / roots_along w) < h
    root_row =
        let e = across_units in
        let r = row_in_lem (w / 4) (h / 4) i some_wide (rw roots_units l) in
        let r' : 16 * (i / roots_along w) < h / 4 = rw e at r in
        omega arith

    pub root_block : Block w h (64 * (i % roots_along w)) (64 * (i / roots_along w)) 64 0
    root_block =
        let c = root_column in
        let r = root_row in
        record {
          wide = z.wide;
          high = z.high;
          units_wide = z.by_four;
          units_high = z.by_four_down;
          column = omega arith;
          row = omega arith;
          right = omega (arith, z.wide);
          bottom = omega (arith, z.high);
          deep = omega arith;
          power = refl;
        }

  -- the root at a luma place
  pub index_in : (x y : ℕ) → x < w → y < h → y / 64 * roots_along w + x / 64 < root_count w h
  index_in x y p q =
      let a : y / 64 < roots_along h = omega arith in
      let b : x / 64 < roots_along w = omega arith in
      rw (mul_comm (roots_along w) (roots_along h)) (digits_lt a b)

  -- its bytes, as the code takes them
  pub bytes_long : (s : List ℕ) (i : ℕ) → i < root_count w h → length s ≡ 1024 * root_count w h → length (take (1024 * i + 1024 - 1024 * i) (drop (1024 * i) s)) ≡ 1024
  bytes_long s i l e = simp (length-take, length-drop) (omega arith)

  -- m: how many roots lie across, as the code has it
  pub root_same : (s : List ℕ) (i m : ℕ) → m ≡ roots_along w
      → walk (take (1024 * i + 1024 - 1024 * i) (drop (1024 * i) s)) (w / 4) (h / 4) 4 (64 * (i % m) / 4) (64 * (i / m) / 4) ≡ root_walk s (w / 4) (h / 4) i
  root_same s i m q =
      let e = across_units in
      let a : 64 * (i % roots_along w) / 4 ≡ 16 * (i % roots_along w) = omega arith in
      let b : 64 * (i / roots_along w) / 4 ≡ 16 * (i / roots_along w) = omega arith in
      let n : 1024 * i + 1024 - 1024 * i ≡ 1024 = omega arith in
      rw (q, a, b, e, n)
