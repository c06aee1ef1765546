-- A picture's sides, and the lengths of what is lent with it: 4:2:0, a unit 4x4 luma samples, a root 64x64.
-- Assumes nothing: these are definitions.
use Rattle.std.specs.Prelude.{ℕ, ◌+◌, ◌*◌, ◌/◌, ◌%◌, Bool, List, [], ◌∷◌, leb, eqb}
use Rattle.laws.specs.Call.{all_of}

-- a multiple of 4, from 4 to 4096
abbrev pub size_tests : ℕ → ℕ → List Bool
size_tests w h = leb 4 w ∷ leb w 4096 ∷ eqb (w % 4) 0 ∷ leb 4 h ∷ leb h 4096 ∷ eqb (h % 4) 0 ∷ []

unfoldable pub size_ok : ℕ → ℕ → Bool
size_ok w h = all_of (size_tests w h)

-- samples of the luma plane, and of a chroma plane
abbrev pub luma_length : ℕ → ℕ → ℕ
luma_length w h = w * h

abbrev pub chroma_length : ℕ → ℕ → ℕ
chroma_length w h = (w / 2) * (h / 2)

-- units, and so words and modes
abbrev pub unit_count : ℕ → ℕ → ℕ
unit_count w h = (w / 4) * (h / 4)

-- root blocks along a side of n samples, and in all
abbrev pub roots_along : ℕ → ℕ
roots_along n = (n + 63) / 64

abbrev pub root_count : ℕ → ℕ → ℕ
root_count w h = roots_along w * roots_along h
