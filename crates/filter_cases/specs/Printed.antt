-- What a line of an answer has of a slice.
-- Assumes nothing: these are definitions.
use Rattle.std.specs.Prelude.{ℕ, List, ◌∷◌}
use Rattle.std.specs.Fmt.{decimal}
use Rattle.std.specs.List.{flat_map}

-- each number after a space
abbrev pub numbers : List ℕ → List ℕ
numbers = flat_map (λ n. 32 ∷ decimal n)
