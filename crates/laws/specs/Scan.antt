-- Scans: a test at each number below n, and at each element of a list.
-- Assumes nothing: these are definitions.
use Rattle.std.specs.Prelude.{ℕ, zero, suc, Bool, true, ◌&&◌, List, length, get_or}

unfoldable pub all_below : (ℕ → Bool) → ℕ → Bool
all_below f zero = true
all_below f (suc n) = all_below f n && f n

-- every element passes. d stands for what is past the end, which is never tested
abbrev pub all_in : {A : Type 0} → A → (A → Bool) → List A → Bool
all_in d f l = all_below (λ (k : ℕ). f (get_or l k d)) (length l)
