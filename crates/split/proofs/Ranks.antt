-- The leaves of a root that is not refused: each stands on a multiple of its side, and their visiting ranks rise.
-- What is asked of the ranks of a root's sixteen columns (or rows) is one test, which the checker computes.
-- Assumes nothing.
use Rattle.std.specs.Prelude.{Ok}
use mathlib.Core.Bool.{Bool, true, false}
use mathlib.Core.Logic.{⊎_elim}
use mathlib.Core.List.Memᴰ
use mathlib.Core.List.{List, [], ◌∷◌, ◌++◌, Memᴰ}
use mathlib.Core.Path.{◌≡◌, refl, sym, subst}
use Prim.Native.Nat.{ℕ, zero, suc, ◌+◌, ◌*◌, ◌%◌, ◌^◌, ◌≤◌, ◌<◌}
use native.Mathlib.Nat.{two-pow-succ, le_refl, mul-pos}
use native.Mathlib.Omega.{arith}
use borrow.Author.Tests.{eqb-true, eq-eqb, le-leb}
use lib.Dec.{leb, eqb}
use lib.Pow.{pow_pos}
use Rattle.laws.specs.Call.{unless, all_of}
use Rattle.laws.specs.Orders.{Pairwise}
use Rattle.laws.specs.Scan.{all_below}
use Rattle.laws.proofs.Calls.{all_at}
use Rattle.laws.proofs.Orders.{pairwise_append}
use Rattle.laws.proofs.Scans.{scan_at}
use Rattle.rank.specs.Ranks.{spread, rank}
use Rattle.split.specs.Walk.{Leaf, leaf, walk}
use Rattle.split.proofs.Induct.{Cases, walk_ind}

-- ---- the test, of one direction: a is the first column, in its root, of a block of side 2 ^ suc k

abbrev half_tests : ℕ → ℕ → List Bool
half_tests k a = eqb (a % 2 ^ k) 0 ∷ eqb ((a + 2 ^ k) % 2 ^ k) 0 ∷ eqb (spread 4 (a + 2 ^ k)) (spread 4 a + 2 ^ k * 2 ^ k) ∷ []

-- where a block of side 2 ^ suc k may stand, its halves stand on multiples of theirs, and the second's ranks follow the first's
abbrev block_halves : ℕ → ℕ → Bool
block_halves k a = unless (eqb (a % 2 ^ suc k) 0) true (unless (leb (a + 2 ^ suc k) 16) true (all_of (half_tests k a)))

test_halved : all_below (λ k. all_below (block_halves k) 16) 4 ≡ true
unfolding spread all_below
test_halved = refl

past : (t k : Bool) → unless t true k ≡ true → t ≡ true → k ≡ true
past true k e q = e
past false k e q = cc

record Halved (k a : ℕ) : Type 0 where
  first : a % 2 ^ k ≡ 0
  second : (a + 2 ^ k) % 2 ^ k ≡ 0
  further : spread 4 (a + 2 ^ k) ≡ spread 4 a + 2 ^ k * 2 ^ k

in_halves : (k a : ℕ) → k < 4 → a % 2 ^ suc k ≡ 0 → a + 2 ^ suc k ≤ 16 → Halved k a
in_halves k a h e l =
    let w = two-pow-succ k in
    let one = pow_pos k in
    let t = scan_at (block_halves k) 16 a (omega arith) (scan_at (λ k. all_below (block_halves k) 16) 4 k h test_halved) in
    let u = past (leb (a + 2 ^ suc k) 16) _ (past (eqb (a % 2 ^ suc k) 0) _ t (eq-eqb _ _ e)) (le-leb _ _ l) in
    record {
      first = eqb-true _ _ (all_at (half_tests k a) 0 u);
      second = eqb-true _ _ (all_at (half_tests k a) 1 u);
      further = eqb-true _ _ (all_at (half_tests k a) 2 u);
    }

-- ---- where a block may stand in its root

pub record Spot (k x y : ℕ) : Type 0 where
  pub level : k ≤ 4
  pub column : x % 16 % 2 ^ k ≡ 0
  pub row : y % 16 % 2 ^ k ≡ 0
  pub right : x % 16 + 2 ^ k ≤ 16
  pub bottom : y % 16 + 2 ^ k ≤ 16

pub root_spot : (x y : ℕ) → x % 16 ≡ 0 → y % 16 ≡ 0 → Spot 4 x y
root_spot x y p q = record { level = le_refl 4; column = omega arith; row = omega arith; right = omega arith; bottom = omega arith }

abbrev rank_of : ℕ → ℕ → ℕ
rank_of x y = rank (x % 16) (y % 16)

record Parts (k x y : ℕ) : Type 0 where
  spot₀ : Spot k x y
  spot₁ : Spot k (x + 2 ^ k) y
  spot₂ : Spot k x (y + 2 ^ k)
  spot₃ : Spot k (x + 2 ^ k) (y + 2 ^ k)
  rank₁ : rank_of (x + 2 ^ k) y ≡ rank_of x y + 2 ^ k * 2 ^ k
  rank₂ : rank_of x (y + 2 ^ k) ≡ rank_of x y + 2 ^ k * 2 ^ k + 2 ^ k * 2 ^ k
  rank₃ : rank_of (x + 2 ^ k) (y + 2 ^ k) ≡ rank_of x y + 2 ^ k * 2 ^ k + 2 ^ k * 2 ^ k + 2 ^ k * 2 ^ k
  area : 2 ^ suc k * 2 ^ suc k ≡ 2 ^ k * 2 ^ k + (2 ^ k * 2 ^ k + (2 ^ k * 2 ^ k + 2 ^ k * 2 ^ k))

parts : (k x y : ℕ) → Spot (suc k) x y → Parts k x y
parts k x y p =
    let w = two-pow-succ k in
    let one = pow_pos k in
    let right = p.right in
    let bottom = p.bottom in
    let level = p.level in
    let h = in_halves k (x % 16) level p.column right in
    let v = in_halves k (y % 16) level p.row bottom in
    let f = h.further in
    let g = v.further in
    let nx : (x + 2 ^ k) % 16 ≡ x % 16 + 2 ^ k = omega arith in
    let ny : (y + 2 ^ k) % 16 ≡ y % 16 + 2 ^ k = omega arith in
    let a₀ : x % 16 + 2 ^ k ≤ 16 = omega arith in
    let a₁ : (x + 2 ^ k) % 16 + 2 ^ k ≤ 16 = omega arith in
    let b₀ : y % 16 + 2 ^ k ≤ 16 = omega arith in
    let b₁ : (y + 2 ^ k) % 16 + 2 ^ k ≤ 16 = omega arith in
    let l : k ≤ 4 = omega arith in
    record {
      spot₀ = record { level = l; column = h.first; row = v.first; right = a₀; bottom = b₀ };
      spot₁ = record { level = l; column = rw nx h.second; row = v.first; right = a₁; bottom = b₀ };
      spot₂ = record { level = l; column = h.first; row = rw ny v.second; right = a₀; bottom = b₁ };
      spot₃ = record { level = l; column = rw nx h.second; row = rw ny v.second; right = a₁; bottom = b₁ };
      rank₁ = rw nx (omega arith);
      rank₂ = rw ny (omega arith);
      rank₃ = rw (nx, ny) (omega arith);
      area = rw w (omega arith);
    }

-- ---- each leaf on a multiple of its side, and the ranks rise

pub record Stands (p : Leaf) : Type 0 where
  pub log : ℕ
  pub power : p.side ≡ 2 ^ log
  pub spot : Spot log p.x p.y

abbrev pub Rises : Leaf → Leaf → Type 0
Rises p q = rank_of p.x p.y < rank_of q.x q.y

-- a leaf of the block of side 2 ^ k at (x, y)
record Ranked (k x y : ℕ) (p : Leaf) : Type 0 where
  from : rank_of x y ≤ rank_of p.x p.y
  to : rank_of p.x p.y < rank_of x y + 2 ^ k * 2 ^ k
  stands : Stands p

abbrev Rising : ℕ → ℕ → ℕ → List Leaf → Type 0
Rising k x y l = Spot k x y → ((p : Leaf) → Memᴰ p l → Ranked k x y p) × Pairwise Rises l

-- what a part says of its leaves, said of the block
up : (k x y u v m n : ℕ) → rank_of u v ≡ rank_of x y + m → m + n ≤ 2 ^ suc k * 2 ^ suc k → n ≡ 2 ^ k * 2 ^ k → (p : Leaf) → Ranked k u v p → Ranked (suc k) x y p
up k x y u v m n e l d p r = let from = r.from in let to = r.to in record { from = omega arith; to = omega arith; stands = r.stands }

rising_cases : (s : List ℕ) (w h : ℕ) → Cases s w h Rising
rising_cases s w h = record {
  skip = λ k x y o d. (λ p m. absurd (Memᴰ.not-nil m), tt);
  unit = λ x y f g d. (alone 0 x y 1 refl d, (λ q m. absurd (Memᴰ.not-nil m), tt));
  whole = λ k x y z f g d. (alone (suc k) x y (2 ^ suc k) refl d, (λ q m. absurd (Memᴰ.not-nil m), tt));
  cut = λ k x y l₀ l₁ l₂ l₃ z c₀ c₁ c₂ c₃ d.
      let e = parts k x y d in
      let r₁ = e.rank₁ in
      let r₂ = e.rank₂ in
      let r₃ = e.rank₃ in
      let a = e.area in
      let n = 2 ^ k * 2 ^ k in
      let d₀ = c₀ e.spot₀ in
      let d₁ = c₁ e.spot₁ in
      let d₂ = c₂ e.spot₂ in
      let d₃ = c₃ e.spot₃ in (
        λ p m. ⊎_elim (λ i. up k x y x y 0 n (omega arith) (omega arith) refl p (d₀.0 p i))
            (λ m. ⊎_elim (λ i. up k x y (x + 2 ^ k) y n n (omega arith) (omega arith) refl p (d₁.0 p i))
            (λ m. ⊎_elim (λ i. up k x y x (y + 2 ^ k) (n + n) n (omega arith) (omega arith) refl p (d₂.0 p i))
            (λ i. up k x y (x + 2 ^ k) (y + 2 ^ k) (n + n + n) n (omega arith) (omega arith) refl p (d₃.0 p i))
            (Memᴰ.append_cases l₂ m)) (Memᴰ.append_cases l₁ m)) (Memᴰ.append_cases l₀ m),
        pairwise_append Rises l₀ (l₁ ++ (l₂ ++ l₃)) d₀.1
            (pairwise_append Rises l₁ (l₂ ++ l₃) d₁.1
            (pairwise_append Rises l₂ l₃ d₂.1 d₃.1 (λ p q i j. omega (arith, (d₂.0 p i).to, (d₃.0 q j).from)))
            (λ p q i j. ⊎_elim (λ o. omega (arith, (d₁.0 p i).to, (d₂.0 q o).from)) (λ o. omega (arith, (d₁.0 p i).to, (d₃.0 q o).from)) (Memᴰ.append_cases l₂ j)))
            (λ p q i j. ⊎_elim (λ o. omega (arith, (d₀.0 p i).to, (d₁.0 q o).from))
            (λ m. ⊎_elim (λ o. omega (arith, (d₀.0 p i).to, (d₂.0 q o).from)) (λ o. omega (arith, (d₀.0 p i).to, (d₃.0 q o).from)) (Memᴰ.append_cases l₂ m))
            (Memᴰ.append_cases l₁ j)),
      );
}
  where
    alone : (k x y n : ℕ) → n ≡ 2 ^ k → Spot k x y → (p : Leaf) → Memᴰ p (leaf x y n ∷ []) → Ranked k x y p
    alone k x y n e d p m =
        let h = mul-pos (pow_pos k) (pow_pos k) in
        subst (Ranked k x y) (sym (Memᴰ.eq_of_singleton m)) (record { from = omega arith; to = omega arith; stands = record { log = k; power = e; spot = d } })

module _ (s : List ℕ) (w h x y : ℕ) (column : x % 16 ≡ 0) (row : y % 16 ≡ 0) (done : (walk s w h 4 x y).answer ≡ Ok tt) where
  pub rising : Pairwise Rises (walk s w h 4 x y).list
  rising = (walk_ind s w h Rising (rising_cases s w h) 4 x y done (root_spot x y column row)).1

  pub standing : (p : Leaf) → Memᴰ p (walk s w h 4 x y).list → Stands p
  standing p m = ((walk_ind s w h Rising (rising_cases s w h) 4 x y done (root_spot x y column row)).0 p m).stands

-- ---- a leaf's side, and that it stands on a multiple of it in the picture

-- a power of 2 up to 16, by its cases
by_log : (P : ℕ → Type 0) → P 0 → P 1 → P 2 → P 3 → P 4 → (k : ℕ) → k ≤ 4 → P k
by_log P p₀ p₁ p₂ p₃ p₄ zero h = p₀
by_log P p₀ p₁ p₂ p₃ p₄ (suc zero) h = p₁
by_log P p₀ p₁ p₂ p₃ p₄ (suc (suc zero)) h = p₂
by_log P p₀ p₁ p₂ p₃ p₄ (suc (suc (suc zero))) h = p₃
by_log P p₀ p₁ p₂ p₃ p₄ (suc (suc (suc (suc zero)))) h = p₄
by_log P p₀ p₁ p₂ p₃ p₄ (suc (suc (suc (suc (suc k))))) h = absurd (omega arith)

pub in_picture : (k x : ℕ) → k ≤ 4 → x % 16 % 2 ^ k ≡ 0 → x % 2 ^ k ≡ 0
in_picture k x h e = by_log (λ k. x % 16 % 2 ^ k ≡ 0 → x % 2 ^ k ≡ 0) (λ e. omega arith) (λ e. omega arith) (λ e. omega arith) (λ e. omega arith) (λ e. omega arith) k h e
