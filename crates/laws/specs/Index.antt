-- Lists by an index function, and a choice by a test.
-- Assumes nothing: these are definitions.
use Rattle.std.specs.Prelude.{ℕ, zero, suc, Bool, true, false, List, [], ◌∷◌}

-- a where the test holds, and else b
abbrev pub pick : {A : Type 0} → Bool → A → A → A
pick true a b = a
pick false a b = b

-- f i, f (i + 1), .., n of them
unfoldable pub tabulate_from : {A : Type 0} → (ℕ → A) → ℕ → ℕ → List A
tabulate_from f i zero = []
tabulate_from f i (suc n) = f i ∷ tabulate_from f (suc i) n

-- f 0, f 1, .., n of them
abbrev pub tabulate : {A : Type 0} → ℕ → (ℕ → A) → List A
tabulate n f = tabulate_from f 0 n
