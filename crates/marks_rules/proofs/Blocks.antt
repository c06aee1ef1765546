-- Blocks of a root: parts, places, and each way to come to a block.
--     part_rooted    a part of a root's block is a block of the root
--     place_apart    two blocks of a root with one place are one
--     by_start, by_end, by_byte_lem    a block by where it starts, by whether it reaches past the picture, and by its byte
-- Assumes nothing.
use mathlib.Core.Bool.{Bool, true, false}
use mathlib.Core.Path.{◌≡◌, refl, sym, ap, ◌∙◌}
use Prim.Native.Nat.{ℕ, zero, suc, ◌+◌, ◌-◌, ◌*◌, ◌/◌, ◌%◌, ◌^◌, ◌≤◌, ◌<◌}
use native.Mathlib.Nat.{two-pow-succ}
use native.Mathlib.Omega.{arith}
use borrow.Author.Tests.{ltb-true, ltb-false, leb-true, leb-false}
use lib.Dec.{ltb, leb}
use lib.Pow.{pow_pos}
use Rattle.split.specs.Walk.{place}
use Rattle.split.proofs.Blocks.{at_most_half}

-- ---- parts

abbrev pub part_x : (k x i : ℕ) → ℕ
part_x k x i = x + i % 2 * 2 ^ k

abbrev pub part_y : (k y i : ℕ) → ℕ
part_y k y i = y + i / 2 * 2 ^ k

-- a block of side 2 ^ k that lies in the root at (16 * X, 16 * Y)
pub record Rooted (X Y k x y : ℕ) : Type 0 where
  pub deep : k ≤ 4
  pub column : x / 16 ≡ X
  pub row : y / 16 ≡ Y
  pub right : x % 16 + 2 ^ k ≤ 16
  pub bottom : y % 16 + 2 ^ k ≤ 16

pub part_rooted : (X Y k x y : ℕ) → Rooted X Y (suc k) x y → (i : ℕ) → i < 4 → Rooted X Y k (part_x k x i) (part_y k y i)
part_rooted X Y k x y b i l =
    let e = two-pow-succ k in
    let one = pow_pos k in
    let r = b.right in
    let d = b.bottom in
    let m = at_most_half (i % 2) (2 ^ k) (omega arith) in
    let n = at_most_half (i / 2) (2 ^ k) (omega arith) in
    record { deep = omega arith; column = omega arith; row = omega arith; right = omega arith; bottom = omega arith }

-- ---- two blocks of a root with one place are one

pub record Same (k x y k' x' y' : ℕ) : Type 0 where
  pub log : k ≡ k'
  pub column : x ≡ x'
  pub row : y ≡ y'

cell_level : (l a b l' a' b' : ℕ) → a < 16 → b < 16 → a' < 16 → b' < 16 → 256 * l + (16 * b + a) ≡ 256 * l' + (16 * b' + a') → l ≡ l'
cell_level l a b l' a' b' p q p' q' e = omega arith

cell_column : (l a b l' a' b' : ℕ) → a < 16 → a' < 16 → 256 * l + (16 * b + a) ≡ 256 * l' + (16 * b' + a') → a ≡ a'
cell_column l a b l' a' b' p p' e = omega arith

cell_row : (l a b l' a' b' : ℕ) → a < 16 → b < 16 → a' < 16 → b' < 16 → 256 * l + (16 * b + a) ≡ 256 * l' + (16 * b' + a') → b ≡ b'
cell_row l a b l' a' b' p q p' q' e = omega arith

-- a place by its sixteenth and what is left
shifted : (x n : ℕ) → x % 16 + n < 16 → (x + n) % 16 ≡ x % 16 + n
shifted x n h = omega arith

joined : (x x' X n n' : ℕ) → x / 16 ≡ X → x' / 16 ≡ X → n ≡ n' → x % 16 + n ≡ x' % 16 + n' → x ≡ x'
joined x x' X n n' c c' e f = omega arith

pub place_apart : (X Y k x y k' x' y' : ℕ) → Rooted X Y (suc k) x y → Rooted X Y (suc k') x' y' → place k x y ≡ place k' x' y' → Same k x y k' x' y'
place_apart X Y k x y k' x' y' b b' e =
    let two = two-pow-succ k in
    let two' = two-pow-succ k' in
    let one = pow_pos k in
    let one' = pow_pos k' in
    let m : (n : ℕ) → n % 16 < 16 = λ n. omega arith in
    let l = cell_level (3 - k) ((x + 2 ^ k) % 16) ((y + 2 ^ k) % 16) (3 - k') ((x' + 2 ^ k') % 16) ((y' + 2 ^ k') % 16) (m _) (m _) (m _) (m _) e in
    let c = cell_column (3 - k) ((x + 2 ^ k) % 16) ((y + 2 ^ k) % 16) (3 - k') ((x' + 2 ^ k') % 16) ((y' + 2 ^ k') % 16) (m _) (m _) e in
    let r = cell_row (3 - k) ((x + 2 ^ k) % 16) ((y + 2 ^ k) % 16) (3 - k') ((x' + 2 ^ k') % 16) ((y' + 2 ^ k') % 16) (m _) (m _) (m _) (m _) e in
    let level : k ≡ k' = level_same k k' b.deep b'.deep l in
    let half : 2 ^ k ≡ 2 ^ k' = ap (λ (n : ℕ). 2 ^ n) level in
    let u = shifted x (2 ^ k) (near (x % 16) (2 ^ k) (2 ^ suc k) two one b.right) in
    let u' = shifted x' (2 ^ k') (near (x' % 16) (2 ^ k') (2 ^ suc k') two' one' b'.right) in
    let v = shifted y (2 ^ k) (near (y % 16) (2 ^ k) (2 ^ suc k) two one b.bottom) in
    let v' = shifted y' (2 ^ k') (near (y' % 16) (2 ^ k') (2 ^ suc k') two' one' b'.bottom) in
    record {
      log = level;
      column = joined x x' X (2 ^ k) (2 ^ k') b.column b'.column half (sym u ∙ c ∙ u');
      row = joined y y' Y (2 ^ k) (2 ^ k') b.row b'.row half (sym v ∙ r ∙ v');
    } where
      level_same : (i j : ℕ) → suc i ≤ 4 → suc j ≤ 4 → 3 - i ≡ 3 - j → i ≡ j
      level_same i j p q e = omega arith

      near : (a n t : ℕ) → t ≡ n + n → 0 < n → a + t ≤ 16 → a + n < 16
      near a n t e p q = omega arith

-- ---- a block by where it starts

pub by_start : (w h x y : ℕ) (P : Type 0) → (w ≤ x → P) → (x < w → h ≤ y → P) → (x < w → y < h → P) → P
by_start w h x y P f g k = by (ltb x w) refl (ltb y h) refl where
  by : (a : Bool) → ltb x w ≡ a → (b : Bool) → ltb y h ≡ b → P
  by false e b d = f (ltb-false x w e)
  by true e false d = g (ltb-true x w e) (ltb-false y h d)
  by true e true d = k (ltb-true x w e) (ltb-true y h d)

-- by whether it reaches past the picture
pub by_end : (w h n x y : ℕ) (P : Type 0) → (w < x + n → P) → (x + n ≤ w → h < y + n → P) → (x + n ≤ w → y + n ≤ h → P) → P
by_end w h n x y P f g k = by (leb (x + n) w) refl (leb (y + n) h) refl where
  by : (a : Bool) → leb (x + n) w ≡ a → (b : Bool) → leb (y + n) h ≡ b → P
  by false e b d = f (leb-false (x + n) w e)
  by true e false d = g (leb-true (x + n) w e) (leb-false (y + n) h d)
  by true e true d = k (leb-true (x + n) w e) (leb-true (y + n) h d)

-- by a byte
pub by_byte_lem : (b : ℕ) (P : Type 0) → (b ≡ 0 → P) → (b ≡ 1 → P) → (1 < b → P) → P
by_byte_lem zero P f g k = f refl
by_byte_lem (suc zero) P f g k = g refl
by_byte_lem (suc (suc b)) P f g k = k (omega arith)
