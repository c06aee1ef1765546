-- The rows of a band, and of what is lent for it.
--     rows_full, rows_last, rows_none    the code's cases
--     few_above, few_rows    at most 16 of each
--     size_fine    a picture's sides, from their bounds
--     BandSize, band_size    what is lent is as large as a picture, and so are the band's own rows
-- Assumes nothing.
use Prim.Native.Nat.{ℕ, zero, suc, ◌+◌, ◌-◌, ◌*◌, ◌/◌, ◌%◌, ◌≤◌, ◌<◌}
use mathlib.Core.Path.{◌≡◌, refl, sym, ◌∙◌}
use mathlib.Core.Bool.{Bool, true, false}
use native.Mathlib.Omega.{arith}
use borrow.Author.Tests.{le-leb, lt-leb, eq-eqb, leb-true, leb-false, ltb-true}
use lib.Dec.{leb, eqb, ltb}
use Rattle.laws.proofs.Bools.{both_left, both_right}
use Rattle.def.specs.Picture.{size_ok, roots_along}
use Rattle.def.proofs.Sizes.{Sized, sized}
use Rattle.band_rows.specs.Rows.{band_rows, rows_above, band_ok}

module _ (h k : ℕ) where
  pub rows_full : k < h / 16 → 16 ≡ band_rows h k
  unfolding band_rows
  rows_full l = rw (le-leb (16 * k + 16) h (omega arith))

  pub rows_last : k ≡ h / 16 → h % 16 ≡ band_rows h k
  unfolding band_rows
  rows_last e = rw (lt-leb (16 * k + 16) h (omega arith)) (omega arith)

  pub rows_none : h / 16 < k → 0 ≡ band_rows h k
  unfolding band_rows
  rows_none l = rw (lt-leb (16 * k + 16) h (omega arith)) (omega arith)

pub size_fine : {w h : ℕ} → Sized w h → size_ok w h ≡ true
unfolding size_ok
size_fine {w} {h} s =
    rw (le-leb 4 w s.some_wide, le-leb w 4096 s.wide, eq-eqb (w % 4) 0 s.by_four, le-leb 4 h s.some_high, le-leb h 4096 s.high, eq-eqb (h % 4) 0 s.by_four_down) refl

-- the rows of a band of a picture, and with those above it
pub record BandSize (w h k : ℕ) : Type 0 where
  pub own : size_ok w (4 * band_rows (h / 4) k) ≡ true
  pub lent : size_ok w (4 * (rows_above k + band_rows (h / 4) k)) ≡ true
  pub judged : 4 * (rows_above k - 1) ≤ 4 * (rows_above k + band_rows (h / 4) k)

pub few_above : (k : ℕ) → (rows_above k ≤ 16 * k) × (rows_above k ≤ 16)
few_above zero = (omega arith, omega arith)
few_above (suc k) = (omega arith, omega arith)

pub few_rows : (h k : ℕ) → band_rows h k ≤ 16
unfolding band_rows
few_rows h k = go (leb (16 * k + 16) h) refl where
  go : (t : Bool) → leb (16 * k + 16) h ≡ t → band_rows h k ≤ 16
  go true e = rw e (omega arith)
  go false e = rw e (let p = leb-false (16 * k + 16) h e in omega arith)

-- a band that is not past the last has a row, and lies in the picture
rows_in : (h k : ℕ) → 16 * k < h → (1 ≤ band_rows h k) × (16 * k + band_rows h k ≤ h)
unfolding band_rows
rows_in h k l = go (leb (16 * k + 16) h) refl where
  go : (t : Bool) → leb (16 * k + 16) h ≡ t → (1 ≤ band_rows h k) × (16 * k + band_rows h k ≤ h)
  go true e = rw e (omega arith, let p = leb-true (16 * k + 16) h e in omega arith)
  go false e = rw e (omega arith, omega arith)

pub band_size : {w h : ℕ} (next k : ℕ) → Sized w h → band_ok next k h ≡ true → BandSize w h k
unfolding band_ok
band_size {w} {h} next k s e =
    let l = ltb-true k (roots_along h) (both_right (eqb k next) _ e) in
    let r = rows_in (h / 4) k (omega (arith, s.by_four_down)) in
    let a = few_above k in
    let wide = s.some_wide in
    let high = s.high in
    record {
      own = size_fine (record {
        some_wide = wide;
        wide = s.wide;
        by_four = s.by_four;
        some_high = omega (arith, r.0);
        high = omega (arith, r.1);
        by_four_down = omega arith;
      });
      lent = size_fine (record {
        some_wide = wide;
        wide = s.wide;
        by_four = s.by_four;
        some_high = omega (arith, r.0);
        high = omega (arith, r.1, a.0);
        by_four_down = omega arith;
      });
      judged = omega arith;
    }
