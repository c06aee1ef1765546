-- The words of a sheet, as bytes.
-- Assumes nothing: these are definitions.
use Rattle.std.specs.Prelude.{ℕ, List, [], ◌∷◌}

-- width=
abbrev pub width_key : List ℕ
width_key = 119 ∷ 105 ∷ 100 ∷ 116 ∷ 104 ∷ 61 ∷ []

-- height=
abbrev pub height_key : List ℕ
height_key = 104 ∷ 101 ∷ 105 ∷ 103 ∷ 104 ∷ 116 ∷ 61 ∷ []

-- tr_log2=
abbrev pub limit_key : List ℕ
limit_key = 116 ∷ 114 ∷ 95 ∷ 108 ∷ 111 ∷ 103 ∷ 50 ∷ 61 ∷ []

-- v_edge=own
abbrev pub own_edge : List ℕ
own_edge = 118 ∷ 95 ∷ 101 ∷ 100 ∷ 103 ∷ 101 ∷ 61 ∷ 111 ∷ 119 ∷ 110 ∷ []

-- v_edge=source
abbrev pub source_edge : List ℕ
source_edge = 118 ∷ 95 ∷ 101 ∷ 100 ∷ 103 ∷ 101 ∷ 61 ∷ 115 ∷ 111 ∷ 117 ∷ 114 ∷ 99 ∷ 101 ∷ []

-- splits=
abbrev pub splits_key : List ℕ
splits_key = 115 ∷ 112 ∷ 108 ∷ 105 ∷ 116 ∷ 115 ∷ 61 ∷ []
