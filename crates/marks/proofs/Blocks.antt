-- A block of 8 or more, in luma samples as the code has it and in units as the rules have it.
--     mend_x, mend_y, mend_bad, mend_own    the byte that it has to have
--     Halved, halved    what it hands to its parts
--     skip, started    whether it starts in the picture
-- Assumes nothing.
use mathlib.Core.Path.{◌≡◌, refl, ap, ap₂, ◌∙◌}
use Prim.Native.Nat.{ℕ, zero, suc, ◌+◌, ◌-◌, ◌*◌, ◌/◌, ◌%◌, ◌^◌, ◌≤◌, ◌<◌}
use native.Mathlib.Nat.{two-pow-succ}
use native.Mathlib.Omega.{arith}
use borrow.Author.Tests.{le-leb, lt-leb}
use lib.Pow.{pow_pos}
use Rattle.split.proofs.Blocks.{at_most_half}
use Rattle.split.specs.Stored.{Block}
use Rattle.split.specs.Walk.{by_byte, place}
use Rattle.marks_rules.proofs.Blocks.{part_x, part_y}
use Rattle.marks_rules.specs.Marks.{blocks_in}
use Rattle.marks_rules.specs.Mended.{mend_by}

-- ---- the byte that a block has to have

module _ {w h x y side level : ℕ} (b : Block w h x y side level) (old : ℕ) where
  abbrev Byte : ℕ
  Byte = mend_by old (w / 4) (h / 4) (2 ^ (4 - level)) (x / 4) (y / 4)

  pub mend_x : w < x + side → 1 ≡ Byte
  unfolding mend_by
  mend_x p = rw (lt-leb (x / 4 + 2 ^ (4 - level)) (w / 4) (omega arith))

  pub mend_y : x + side ≤ w → h < y + side → 1 ≡ Byte
  unfolding mend_by
  mend_y p q = rw (le-leb (x / 4 + 2 ^ (4 - level)) (w / 4) (omega arith), lt-leb (y / 4 + 2 ^ (4 - level)) (h / 4) (omega arith))

  inside : x + side ≤ w → y + side ≤ h → by_byte old 0 1 0 ≡ Byte
  unfolding mend_by
  inside p q = rw (le-leb (x / 4 + 2 ^ (4 - level)) (w / 4) (omega arith), le-leb (y / 4 + 2 ^ (4 - level)) (h / 4) (omega arith))

  pub mend_bad : x + side ≤ w → y + side ≤ h → 1 < old → 0 ≡ Byte
  unfolding by_byte
  mend_bad p q l = go old l ∙ inside p q where
    go : (o : ℕ) → 1 < o → ◌≡◌ {A = ℕ} 0 (by_byte o 0 1 0)
    go zero l = refl
    go (suc zero) l = absurd (omega arith)
    go (suc (suc o)) l = refl

  pub mend_own : x + side ≤ w → y + side ≤ h → old ≤ 1 → old ≡ Byte
  unfolding by_byte
  mend_own p q l = go old l ∙ inside p q where
    go : (o : ℕ) → o ≤ 1 → ◌≡◌ {A = ℕ} o (by_byte o 0 1 0)
    go zero l = refl
    go (suc zero) l = refl
    go (suc (suc o)) l = absurd (omega arith)

-- ---- a block that starts in the picture and what it hands to its parts: k is the log of half its side in units

pub record Halved (w h x y side level : ℕ) : Type 0 where
  pub log : 4 - level ≡ suc (3 - level)
  pub across : x < w → x / 4 < w / 4
  pub down : y < h → y / 4 < h / 4
  pub centre : 256 * level + (16 * ((y + side / 2) / 4 % 16) + (x + side / 2) / 4 % 16) ≡ place (3 - level) (x / 4) (y / 4)
  pub block : (i : ℕ) → i < 4 → Block w h (x + i % 2 * (side / 2)) (y + i / 2 * (side / 2)) (side / 2) (level + 1)
  pub next : 4 - (level + 1) ≡ 3 - level
  pub column : (i : ℕ) → (x + i % 2 * (side / 2)) / 4 ≡ part_x (3 - level) (x / 4) i
  pub row : (i : ℕ) → (y + i / 2 * (side / 2)) / 4 ≡ part_y (3 - level) (y / 4) i
  pub right : x + side / 2 ≤ 8192
  pub bottom : y + side / 2 ≤ 8192
  pub room : blocks_in (4 - level) ≡ 1 + 4 * blocks_in (3 - level)

pub halved : {w h x y side level : ℕ} → Block w h x y side level → level < 4 → Halved w h x y side level
unfolding blocks_in
halved {w} {h} {x} {y} {side} {level} b deep =
    let unit = 2 ^ (3 - level) in
    let log : 4 - level ≡ suc (3 - level) = omega arith in
    let r = b.power ∙ ap (λ (n : ℕ). 4 * 2 ^ n) log ∙ ap (λ (n : ℕ). 4 * n) (two-pow-succ (3 - level)) in
    let p : side / 2 ≡ 4 * unit = omega arith in
    let two : side ≡ side / 2 + side / 2 = omega arith in
    let one = pow_pos (3 - level) in
    let near : (bit : ℕ) → bit * (side / 2) ≡ 4 * (bit * unit) = λ bit. ap (λ (n : ℕ). bit * n) p ∙ omega arith in
    let next : 4 - (level + 1) ≡ 3 - level = omega arith in
    let c : (x + side / 2) / 4 ≡ x / 4 + unit = omega arith in
    let d : (y + side / 2) / 4 ≡ y / 4 + unit = omega arith in
    let l : level ≡ 3 - (3 - level) = omega arith in
    record {
      log = log;
      across = λ q. omega arith;
      down = λ q. omega arith;
      centre = ap₂ (λ (m n : ℕ). 256 * level + (16 * (m % 16) + n % 16)) d c ∙ ap (λ (n : ℕ). 256 * n + (16 * ((y / 4 + unit) % 16) + (x / 4 + unit) % 16)) l;
      block = λ i j.
          let u = near (i % 2) in
          let v = near (i / 2) in
          let m = at_most_half (i % 2) (side / 2) (omega arith) in
          let n = at_most_half (i / 2) (side / 2) (omega arith) in
          record {
            wide = b.wide;
            high = b.high;
            units_wide = b.units_wide;
            units_high = b.units_high;
            column = omega arith;
            row = omega arith;
            right = omega arith;
            bottom = omega arith;
            deep = omega arith;
            power = rw next p;
          };
      next = next;
      column = λ i. let u = near (i % 2) in omega arith;
      row = λ i. let v = near (i / 2) in omega arith;
      right = omega arith;
      bottom = omega arith;
      room = ap blocks_in log;
    }
