-- The frames of a stream: a bare `FRAME` line, and Y, U and V, two bytes a sample, the low byte first.
-- Assumes nothing: these are definitions.
use Rattle.std.specs.Prelude.{ℕ, ◌+◌, ◌*◌, ◌/◌, ◌%◌, Bool, true, false, ◌&&◌, List, [], ◌∷◌, ◌++◌, eqb, drop, get_or}
use Rattle.laws.specs.Call.{all_of}
use Rattle.laws.specs.Index.{pick, tabulate}
use Rattle.def.specs.Formats.{colour_length}
use Rattle.def.specs.Picture.{luma_length}
use Rattle.def.specs.declared.Format.{Format}
use Rattle.def.specs.declared.Format.TheVariants.{Grey, Colour}
use Rattle.samples.specs.Samples.{samples_ok}
use Rattle.y4m_rules.specs.Words.{frame_line, frame_space}

-- ---- lengths

-- a grey picture has no frame in this form
abbrev pub colour_ok : Format → Bool
colour_ok Grey = false
colour_ok Colour = true

-- samples of the three planes
abbrev pub samples_in : Format → ℕ → ℕ → ℕ
samples_in c w h = luma_length w h + 2 * colour_length c w h

-- bytes of a frame, its line with them
abbrev pub frame_length : Format → ℕ → ℕ → ℕ
frame_length c w h = 6 + 2 * samples_in c w h

-- ---- what is written

unfoldable pub bytes_of : List ℕ → List ℕ
bytes_of [] = []
bytes_of (x ∷ p) = (x % 256) ∷ (x / 256) ∷ bytes_of p

unfoldable pub frame_text : (y u v : List ℕ) → List ℕ
frame_text y u v = frame_line ++ (bytes_of y ++ (bytes_of u ++ bytes_of v))

-- ---- what is read

-- the sample whose low byte stands at a place
abbrev pub sample_at : List ℕ → ℕ → ℕ
sample_at s at = get_or s at 0 + 256 * get_or s (at + 1) 0

-- n samples from a place on
abbrev pub plane_at : List ℕ → ℕ → ℕ → List ℕ
plane_at s at n = tabulate n (λ (k : ℕ). sample_at s (at + 2 * k))

-- the bytes of l are those of the key; short: what it is where they end before the key does
unfoldable pub matches : Bool → List ℕ → List ℕ → Bool
matches short [] l = true
matches short (k ∷ key) [] = short
matches short (k ∷ key) (b ∷ l) = eqb k b && matches short key l

-- the bytes at a place are a frame line, as far as they go
abbrev pub line_ok : List ℕ → ℕ → Bool
line_ok s at = matches true frame_line (drop at s)

-- where another line offends: at the first byte of its parameter, if it has one after FRAME and a space; else at its own first byte
unfoldable pub line_place : List ℕ → ℕ → ℕ
line_place s at = pick (matches false frame_space (drop at s)) (at + 6) at

-- where the planes of the frame at a place start, by how many samples luma and a chroma plane have; and where the frame ends
abbrev pub y_from : ℕ → ℕ
y_from at = at + 6

abbrev pub u_from : (at luma : ℕ) → ℕ
u_from at luma = y_from at + 2 * luma

abbrev pub v_from : (at luma chroma : ℕ) → ℕ
v_from at luma chroma = u_from at luma + 2 * chroma

abbrev pub frame_end : (at luma chroma : ℕ) → ℕ
frame_end at luma chroma = v_from at luma chroma + 2 * chroma

-- the planes of the frame at a place
abbrev pub y_at : List ℕ → (at luma : ℕ) → List ℕ
y_at s at luma = plane_at s (y_from at) luma

abbrev pub u_at : List ℕ → (at luma chroma : ℕ) → List ℕ
u_at s at luma chroma = plane_at s (u_from at luma) chroma

abbrev pub v_at : List ℕ → (at luma chroma : ℕ) → List ℕ
v_at s at luma chroma = plane_at s (v_from at luma chroma) chroma

-- each of their samples is at most 1023
unfoldable pub planes_ok : List ℕ → (at luma chroma : ℕ) → Bool
planes_ok s at luma chroma = all_of (samples_ok (y_at s at luma) ∷ samples_ok (u_at s at luma chroma) ∷ samples_ok (v_at s at luma chroma) ∷ [])
