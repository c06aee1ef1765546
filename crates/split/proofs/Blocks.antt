-- A block of the walk, in luma samples as the code has it and in units as the rules have it.
--     byte_at_centre, only_one, deeper, has_byte, not_eight, counted, within, fewer    the numbers of the walk's code
--     past_x, past_y, inside    a leaf
--     skip_x, skip_y, skip, started, at_unit, at_leaf, at_bad, at_cut    each way through the walk
--     Cut, cut    what a block that is cut hands to its parts
-- Assumes nothing.
use Rattle.std.specs.Prelude.{Ok, Err}
use mathlib.Core.Bool.{Bool, true, false, ◌||◌}
use mathlib.Core.List.{List, [], ◌∷◌}
use mathlib.Core.Path.{◌≡◌, refl, sym, ap, ◌∙◌}
use Prim.Native.Nat.{ℕ, suc, ◌+◌, ◌-◌, ◌*◌, ◌/◌, ◌%◌, ◌^◌, ◌≤◌, ◌<◌}
use native.Mathlib.Nat.{mul-le-mul_right, one-mul, two-pow-succ, mul-pos}
use native.Mathlib.Omega.{arith}
use borrow.Author.Tests.{leb-true, leb-false}
use lib.Dec.{leb}
use lib.ListN.{length, get_or}
use lib.Pow.{pow_pos}
use Rattle.def.specs.declared.Refusal.TheVariants.{Split, Leaf as PastPicture}
use Rattle.split.specs.Stored.{Block}
use Rattle.split.specs.Walk.{leaf, Walk, met, nothing, in_turn, leaf_walk, place, part, walk}
use Rattle.split.proofs.Walks.{few_in_turn, few_leaves, walk_x, walk_y, walk_unit, walk_leaf, walk_cut, walk_bad, leaf_in_lem, leaf_x, leaf_y}

pub at_most_half : (bit half : ℕ) → bit ≤ 1 → bit * half ≤ half
at_most_half bit half h = omega (arith, mul-le-mul_right half h, one-mul half)

-- the split byte by the centre's column and row, in units
pub byte_at_centre : (s : List ℕ) (level : ℕ) {column column' row row' : ℕ} → column ≡ column' → row ≡ row'
    → get_or s (256 * level + (16 * (row % 16) + column % 16)) 0 ≡ get_or s (256 * level + (16 * (row' % 16) + column' % 16)) 0
byte_at_centre s level p q = λ i. get_or s (256 * level + (16 * (q i % 16) + p i % 16)) 0

-- the numbers of the loop over the parts: a byte that is left, the next level
pub only_one : (byte : ℕ) → byte ≤ 1 → (byte ≡ 0 → ⊥) → byte ≡ 1
only_one byte l n = omega arith

pub deeper : (level : ℕ) → level < 4 → level + 1 < 2 ^ 64
deeper level l = omega arith

-- a block of side 16 or more has a byte, and so have its parts
pub has_byte : {level : ℕ} → level < 3 → level < 4
has_byte l = omega arith

pub not_eight : (level : ℕ) → level < 3 → (level ≡ 2 → ⊥) → level + 1 < 3
not_eight level l n = omega arith

pub counted : (part : ℕ) → part < 4 → part + 1 < 2 ^ 64
counted part l = omega arith

pub within : (part : ℕ) → part < 4 → part + 1 ≤ 4
within part l = omega arith

pub fewer : (part : ℕ) → part < 4 → 4 - (part + 1) < 4 - part
fewer part l = omega arith

-- ---- a leaf

module _ {w h x y side level : ℕ} (b : Block w h x y side level) where
  pub column_back : x ≡ 4 * (x / 4)
  column_back = omega arith

  pub row_back : y ≡ 4 * (y / 4)
  row_back = omega arith

  -- a block of level 3 has side 8, and room for four leaves
  pub as_eight : level ≡ 3 → Block w h x y 8 3
  as_eight e = let p : side ≡ 8 = rw e at b.power in rw (p, e) at b

  pub room_eight : level ≡ 3 → (n m : ℕ) → 3 * (n + side / 4 * (side / 4)) ≤ m → 3 * (n + 4) ≤ m
  room_eight e n m g = let p : side ≡ 8 = rw e at b.power in rw p at g

  -- a block's room holds a leaf
  pub room_one : (n m : ℕ) → 3 * (n + side / 4 * (side / 4)) ≤ m → 3 * n + 3 ≤ m
  room_one n m g =
      let e : side / 4 ≡ 2 ^ (4 - level) = omega arith in
      let p = pow_pos (4 - level) in
      let q : 1 ≤ side / 4 * (side / 4) = rw e (mul-pos p p) in
      omega arith

  pub past_x : w < x + side → leaf_walk (w / 4) (h / 4) (2 ^ (4 - level)) (x / 4) (y / 4) ≡ met [] (Err PastPicture)
  past_x g = leaf_x _ _ (2 ^ (4 - level)) _ _ (omega arith)

  pub past_y : x + side ≤ w → h < y + side → leaf_walk (w / 4) (h / 4) (2 ^ (4 - level)) (x / 4) (y / 4) ≡ met [] (Err PastPicture)
  past_y f g = leaf_y _ _ (2 ^ (4 - level)) _ _ (omega arith) (omega arith)

  pub inside : x + side ≤ w → y + side ≤ h → leaf_walk (w / 4) (h / 4) (2 ^ (4 - level)) (x / 4) (y / 4) ≡ met (leaf (x / 4) (y / 4) (2 ^ (4 - level)) ∷ []) (Ok tt)
  inside f g = leaf_in_lem _ _ (2 ^ (4 - level)) _ _ (omega arith) (omega arith)

-- ---- what a block that is cut hands to its parts

-- the walk of part i
abbrev pub part_of : List ℕ → (w h x y level i : ℕ) → Walk
part_of s w h x y level = part (walk s (w / 4) (h / 4) (3 - level)) (2 ^ (3 - level)) (x / 4) (y / 4)

pub record Cut (s : List ℕ) (w h x y side level half : ℕ) : Type 0 where
  pub parts : walk s (w / 4) (h / 4) (4 - level) (x / 4) (y / 4) ≡ in_turn (part_of s w h x y level) 4
  pub block : (i : ℕ) → i < 4 → Block w h (x + i % 2 * half) (y + i / 2 * half) half (level + 1)
  pub same : (i : ℕ) → walk s (w / 4) (h / 4) (4 - (level + 1)) ((x + i % 2 * half) / 4) ((y + i / 2 * half) / 4) ≡ part_of s w h x y level i
  pub few : (i : ℕ) → length (in_turn (part_of s w h x y level) i).list ≤ i * (half / 4 * (half / 4))
  pub quarter : side / 4 * (side / 4) ≡ 4 * (half / 4 * (half / 4))
  pub less : half < side
  pub right : x + half ≤ 8192
  pub bottom : y + half ≤ 8192

-- ---- each way through the walk

neither : (a b : Bool) → (a || b) ≡ false → (a ≡ false) × (b ≡ false)
neither true b e = (e, cc)
neither false b e = (refl, e)

-- a block that is not skipped starts in the picture
pub started : (w h x y : ℕ) → (leb w x || leb h y) ≡ false → (x < w) × (y < h)
started w h x y e = let n = neither (leb w x) (leb h y) e in (leb-false w x n.0, leb-false h y n.1)

module _ (s : List ℕ) {w h x y side level : ℕ} (b : Block w h x y side level) where
  pub skip_x : w ≤ x → walk s (w / 4) (h / 4) (4 - level) (x / 4) (y / 4) ≡ nothing
  skip_x g = walk_x s _ _ (4 - level) _ _ (omega arith)

  pub skip_y : x < w → h ≤ y → walk s (w / 4) (h / 4) (4 - level) (x / 4) (y / 4) ≡ nothing
  skip_y f g = walk_y s _ _ (4 - level) _ _ (omega arith) (omega arith)

  skip_by : (past : Bool) → leb w x ≡ past → (past || leb h y) ≡ true → walk s (w / 4) (h / 4) (4 - level) (x / 4) (y / 4) ≡ nothing
  skip_by true e p = skip_x (leb-true w x e)
  skip_by false e p = skip_y (leb-false w x e) (leb-true h y p)

  pub skip : (leb w x || leb h y) ≡ true → walk s (w / 4) (h / 4) (4 - level) (x / 4) (y / 4) ≡ nothing
  skip p = skip_by (leb w x) refl p

  pub at_unit : x < w → y < h → level ≡ 4 → walk s (w / 4) (h / 4) (4 - level) (x / 4) (y / 4) ≡ leaf_walk (w / 4) (h / 4) (2 ^ (4 - level)) (x / 4) (y / 4)
  at_unit f g e = rw e (walk_unit s _ _ _ _ (omega arith) (omega arith))

  -- a block that has a byte: k is the log of half its side in units
  module _ (f : x < w) (g : y < h) (deep : level < 4) (byte : ℕ)
      (is : byte ≡ get_or s (256 * level + (16 * ((y + side / 2) / 4 % 16) + (x + side / 2) / 4 % 16)) 0) where
    log : 4 - level ≡ suc (3 - level)
    log = omega arith

    abbrev unit : ℕ
    unit = 2 ^ (3 - level)

    half_unit : side / 2 ≡ 4 * unit
    half_unit = let p = b.power ∙ ap (λ (n : ℕ). 4 * 2 ^ n) log ∙ ap (λ (n : ℕ). 4 * n) (two-pow-succ (3 - level)) in omega arith

    centre : get_or s (place (3 - level) (x / 4) (y / 4)) 0 ≡ byte
    centre =
        let p = half_unit in
        let c : (x + side / 2) / 4 ≡ x / 4 + unit = omega arith in
        let r : (y + side / 2) / 4 ≡ y / 4 + unit = omega arith in
        let l : 3 - (3 - level) ≡ level = omega arith in
        rw l (rw (c, r) at (sym is))

    pub at_bad : 1 < byte → walk s (w / 4) (h / 4) (4 - level) (x / 4) (y / 4) ≡ met [] (Err Split)
    at_bad e = rw log (walk_bad s _ _ (3 - level) _ _ (omega arith) (omega arith) (rw centre e))

    pub at_leaf : byte ≡ 0 → walk s (w / 4) (h / 4) (4 - level) (x / 4) (y / 4) ≡ leaf_walk (w / 4) (h / 4) (2 ^ (4 - level)) (x / 4) (y / 4)
    at_leaf e = rw log (walk_leaf s _ _ (3 - level) _ _ (omega arith) (omega arith) (centre ∙ e))

    pub at_cut : byte ≡ 1 → walk s (w / 4) (h / 4) (4 - level) (x / 4) (y / 4) ≡ in_turn (part (walk s (w / 4) (h / 4) (3 - level)) unit (x / 4) (y / 4)) 4
    at_cut e = rw log (walk_cut s _ _ (3 - level) _ _ (omega arith) (omega arith) (centre ∙ e))

    pub cut : byte ≡ 1 → Cut s w h x y side level (side / 2)
    cut e =
        let p = half_unit in
        let one = pow_pos (3 - level) in
        let q : side / 2 / 4 ≡ unit = omega arith in
        let two : side ≡ side / 2 + side / 2 = (let r = b.power ∙ ap (λ (n : ℕ). 4 * 2 ^ n) log ∙ ap (λ (n : ℕ). 4 * n) (two-pow-succ (3 - level)) in omega arith) in
        let near : (bit : ℕ) → bit * (side / 2) ≡ 4 * (bit * unit) = λ bit. ap (λ (n : ℕ). bit * n) p ∙ omega arith in
        let next : 4 - (level + 1) ≡ 3 - level = omega arith in
        record {
          parts = at_cut e;
          block = λ i l.
              let u = near (i % 2) in
              let v = near (i / 2) in
              let c = at_most_half (i % 2) (side / 2) (omega arith) in
              let r = at_most_half (i / 2) (side / 2) (omega arith) in
              record {
                wide = b.wide;
                high = b.high;
                units_wide = b.units_wide;
                units_high = b.units_high;
                column = omega arith;
                row = omega arith;
                right = omega arith;
                bottom = omega arith;
                deep = omega arith;
                power = rw next p;
              };
          same = λ i.
              let u = near (i % 2) in
              let v = near (i / 2) in
              let c : (x + i % 2 * (side / 2)) / 4 ≡ x / 4 + i % 2 * unit = omega arith in
              let r : (y + i / 2 * (side / 2)) / 4 ≡ y / 4 + i / 2 * unit = omega arith in
              rw (next, c, r);
          few = λ i. rw q (few_in_turn (part_of s w h x y level) (unit * unit) (λ j. few_leaves s _ _ (3 - level) _ _) i).few;
          quarter =
              let t : side / 4 ≡ 2 * unit = omega arith in
              rw (q, t) (omega arith);
          less = omega arith;
          right = omega arith;
          bottom = omega arith;
        }
