-- Laws of a sample on the screen.
--     by_held    what holds on both sides of the hold holds of the sample
--     screened_small, screened_over, screened_under
-- Assumes nothing.
use Rattle.std.proofs.Common.{◌≡◌, ℕ, ◌+◌, ◌/◌, ◌<◌, ◌≤◌, Bool, true, false, ltb, refl, arith, ltb-false, ltb-true}
use Rattle.laws.specs.Index.{pick}
use Rattle.ward_rows.specs.Samples.{screened}

pub by_held : (v : ℕ) (P : ℕ → Type 0) → (255 < (v + 2) / 4 → P 255) → ((v + 2) / 4 ≤ 255 → P ((v + 2) / 4)) → P (screened v)
unfolding screened
by_held v P f g = go (ltb 255 ((v + 2) / 4)) refl where
  go : (t : Bool) → ltb 255 ((v + 2) / 4) ≡ t → P (pick t 255 ((v + 2) / 4))
  go true e = f (ltb-true 255 ((v + 2) / 4) e)
  go false e = g (ltb-false 255 ((v + 2) / 4) e)

pub screened_small : (v : ℕ) → screened v ≤ 255
screened_small v = by_held v (λ n. n ≤ 255) (λ p. omega arith) (λ p. p)

pub screened_over : (v : ℕ) → 255 < (v + 2) / 4 → 255 ≡ screened v
screened_over v h = by_held v (λ n. 255 ≡ n) (λ p. refl) (λ p. omega arith)

pub screened_under : (v : ℕ) → (v + 2) / 4 ≤ 255 → (v + 2) / 4 ≡ screened v
screened_under v h = by_held v (λ n. (v + 2) / 4 ≡ n) (λ p. omega arith) (λ p. refl)
