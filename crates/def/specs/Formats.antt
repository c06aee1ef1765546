-- The chroma format of a picture: what of colour it has.
-- Assumes nothing: these are definitions.
use Rattle.std.specs.Prelude.{ℕ}
use Rattle.def.specs.Picture.{chroma_length}
use Rattle.def.specs.declared.Format.{Format}
use Rattle.def.specs.declared.Format.TheVariants.{Grey, Colour}

-- a length of colour, in a picture of the format
abbrev pub in_format : Format → ℕ → ℕ
in_format Grey n = 0
in_format Colour n = n

-- samples of U, or of V
abbrev pub colour_length : Format → (w h : ℕ) → ℕ
colour_length f w h = in_format f (chroma_length w h)
