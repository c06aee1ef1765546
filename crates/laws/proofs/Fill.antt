-- A loop that stores f i at i, from the front: what holds after i turns, and that all turns make the table of f.
use mathlib.Core.Path.{◌≡◌, refl, ◌∙◌}
use mathlib.Core.List.{List}
use Prim.Native.Nat.{ℕ, ◌+◌, ◌≤◌, ◌<◌, zero-le}
use native.Mathlib.Omega.{arith}
use native.Mathlib.Decide.{dec_lt}
use lib.ListN.{length, get_or, set, length-set}
use lib.Seq.{get_or-set_same, get_or-set_other}
use Rattle.laws.specs.Index.{tabulate}
use Rattle.laws.proofs.Tabulate.{is_tabulate}

-- the first i of l₀ have been replaced by f, and the rest are as they were
pub record Upto {A : Type 0} (d : A) (f : ℕ → A) (l₀ l : List A) (i : ℕ) : Type 0 where
  pub within : i ≤ length l₀
  pub long : length l ≡ length l₀
  pub below : (k : ℕ) → k < i → get_or l k d ≡ f k
  pub above : (k : ℕ) → i ≤ k → get_or l k d ≡ get_or l₀ k d

module _ {A : Type 0} (d : A) (f : ℕ → A) where
  pub upto_none : (l : List A) → Upto d f l l 0
  upto_none l = record { within = zero-le; long = refl; below = λ k h. absurd (none k h); above = λ k h. refl } where
    none : (k : ℕ) → k < 0 → ⊥
    none k h = omega arith

  pub upto_more : (l₀ l : List A) (i : ℕ) (v : A) → i < length l₀ → v ≡ f i → Upto d f l₀ l i → Upto d f l₀ (set l i v) (i + 1)
  upto_more l₀ l i v h e u =
      record {
        within = omega arith;
        long = length-set l i v ∙ u.long;
        below = λ k p. step k p (dec_lt k i);
        above = λ k p. get_or-set_other l i k v d (λ q. other k p q) ∙ u.above k (omega arith);
      } where
        other : (k : ℕ) → i + 1 ≤ k → k ≡ i → ⊥
        other k p q = omega arith

        step : (k : ℕ) → k < i + 1 → Dec (k < i) → get_or (set l i v) k d ≡ f k
        step k p (yes q) = get_or-set_other l i k v d (λ e. (omega arith)) ∙ u.below k q
        step k p (no q) =
            let r : k ≡ i = omega arith in
            rw r (get_or-set_same l i v d (omega arith) ∙ e)

  pub upto_all : (l₀ l : List A) (i : ℕ) → length l₀ ≤ i → Upto d f l₀ l i → l ≡ tabulate (length l₀) f
  upto_all l₀ l i h u = is_tabulate f (length l₀) l d u.long (λ k p. u.below k (omega arith))
