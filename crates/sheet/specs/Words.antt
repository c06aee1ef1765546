-- The words of a listing, as bytes.
-- Assumes nothing: these are definitions.
use Rattle.std.specs.Prelude.{ℕ, List, [], ◌∷◌}

-- refused=
abbrev pub refused_key : List ℕ
refused_key = 114 ∷ 101 ∷ 102 ∷ 117 ∷ 115 ∷ 101 ∷ 100 ∷ 61 ∷ []

-- a space and line=
abbrev pub line_key : List ℕ
line_key = 32 ∷ 108 ∷ 105 ∷ 110 ∷ 101 ∷ 61 ∷ []

-- v_count=
abbrev pub vertical_count : List ℕ
vertical_count = 118 ∷ 95 ∷ 99 ∷ 111 ∷ 117 ∷ 110 ∷ 116 ∷ 61 ∷ []

-- h_count=
abbrev pub horizontal_count : List ℕ
horizontal_count = 104 ∷ 95 ∷ 99 ∷ 111 ∷ 117 ∷ 110 ∷ 116 ∷ 61 ∷ []

abbrev pub newline : List ℕ
newline = 10 ∷ []
