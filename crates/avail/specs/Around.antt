-- A block among the units of a picture: what both calls take, and the words of the units around it.
-- Assumes nothing: these are definitions.
use Rattle.std.specs.Prelude.{ℕ, ◌+◌, ◌*◌, ◌/◌, Bool, not, ◌&&◌, List, get_or}
use Rattle.def.specs.Word.{intra_of, done_of}

pub record Input : Type 0 where
  pub w : ℕ
  pub h : ℕ
  pub words : List ℕ
  pub x : ℕ
  pub y : ℕ
  pub side : ℕ

-- units along a row and along a column of the picture
abbrev pub units_across : Input → ℕ
units_across i = i.w / 4

abbrev pub units_down : Input → ℕ
units_down i = i.h / 4

-- the block's first unit, and the block's units along a side
abbrev pub column : Input → ℕ
column i = i.x / 4

abbrev pub row : Input → ℕ
row i = i.y / 4

abbrev pub units : Input → ℕ
units i = i.side / 4

-- the word of the unit at column u, row v of a picture w wide
abbrev pub word_at : ℕ → List ℕ → ℕ → ℕ → ℕ
word_at w words u v = get_or words (v * (w / 4) + u) 0

-- what the unit at column u, row v is
abbrev pub done_at : Input → ℕ → ℕ → Bool
done_at i u v = done_of (word_at i.w i.words u v)

abbrev pub intra_at : Input → ℕ → ℕ → Bool
intra_at i u v = intra_of (word_at i.w i.words u v)

-- done, and not intra
abbrev pub done_not_intra : ℕ → Bool
done_not_intra word = done_of word && not (intra_of word)

abbrev pub done_not_intra_at : Input → ℕ → ℕ → Bool
done_not_intra_at i u v = done_not_intra (word_at i.w i.words u v)
