-- The fixed words of a stream, as bytes, and the words of a line.
-- Assumes nothing: these are definitions.
use Rattle.std.specs.Prelude.{ℕ, ◌||◌, List, [], ◌∷◌, eqb}
use Rattle.laws.specs.Index.{pick}

-- YUV4MPEG2
abbrev pub magic : List ℕ
magic = 89 ∷ 85 ∷ 86 ∷ 52 ∷ 77 ∷ 80 ∷ 69 ∷ 71 ∷ 50 ∷ []

-- p, after I: progressive
abbrev pub progressive : List ℕ
progressive = 112 ∷ []

-- 420p10, after C: 4:2:0, 10 bits
abbrev pub format : List ℕ
format = 52 ∷ 50 ∷ 48 ∷ 112 ∷ 49 ∷ 48 ∷ []

-- FRAME and its newline
abbrev pub frame_line : List ℕ
frame_line = 70 ∷ 82 ∷ 65 ∷ 77 ∷ 69 ∷ 10 ∷ []

-- FRAME and a space
abbrev pub frame_space : List ℕ
frame_space = 70 ∷ 82 ∷ 65 ∷ 77 ∷ 69 ∷ 32 ∷ []

-- the bytes before the first that is p or q, or all
unfoldable pub before : (p q : ℕ) → List ℕ → List ℕ
before p q [] = []
before p q (b ∷ s) = pick (eqb b p || eqb b q) [] (b ∷ before p q s)

-- a word ends before a space or a newline; the first number of a ratio before its colon
abbrev pub word_of : List ℕ → List ℕ
word_of s = before 32 10 s

abbrev pub colon_of : List ℕ → List ℕ
colon_of s = before 58 58 s
