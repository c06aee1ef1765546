-- The call `write_frame`: a picture's frame, into exactly its bytes. Its refusals: 1, 2, 3 for a grey picture, 7.
-- Assumes nothing: these are definitions.
use Rattle.std.specs.Prelude.{ℕ, Bool, List, [], ◌∷◌, eqb, length, Ok, Err}
use Rattle.laws.specs.Call.{unless, all_of}
use Rattle.def.specs.Answers.{after_checks}
use Rattle.def.specs.Formats.{colour_length}
use Rattle.def.specs.Picture.{size_ok, luma_length}
use Rattle.def.specs.Refusals.{number_of}
use Rattle.def.specs.Answers.{Answer}
use Rattle.def.specs.declared.Format.{Format}
use Rattle.def.specs.declared.Refusal.{Refusal}
use Rattle.def.specs.declared.Refusal.TheVariants.{Size, Length, Setting, Sample}
use Rattle.samples.specs.Samples.{samples_ok}
use Rattle.y4m_rules.specs.Frames.{colour_ok, frame_length, frame_text}

pub record Input : Type 0 where
  pub format : Format
  pub w : ℕ
  pub h : ℕ
  pub y : List ℕ
  pub u : List ℕ
  pub v : List ℕ
  pub out : List ℕ

pub record Outcome : Type 0 where
  pub number : ℕ
  pub out : List ℕ

-- the planes have the lengths of their format, and the bytes are those of the frame
unfoldable pub lengths_ok : (c : Format) (w h y u v out : ℕ) → Bool
lengths_ok c w h y u v out = all_of (eqb y (luma_length w h) ∷ eqb u (colour_length c w h) ∷ eqb v (colour_length c w h) ∷ eqb out (frame_length c w h) ∷ [])

unfoldable pub planes_ok : (y u v : List ℕ) → Bool
planes_ok y u v = all_of (samples_ok y ∷ samples_ok u ∷ samples_ok v ∷ [])

unfoldable pub check_of : (c : Format) (w h : ℕ) (y u v : List ℕ) (out : ℕ) → Answer
check_of c w h y u v out =
    unless (size_ok w h) (Err Size)
    (unless (lengths_ok c w h (length y) (length u) (length v) out) (Err Length)
    (unless (colour_ok c) (Err Setting)
    (unless (planes_ok y u v) (Err Sample)
    (Ok tt))))

abbrev pub check : Input → Answer
check i = check_of i.format i.w i.h i.y i.u i.v (length i.out)

abbrev pub refused : Input → Refusal → Outcome
refused i r = record { number = number_of r; out = i.out }

abbrev pub done : Input → Outcome
done i = record { number = 0; out = frame_text i.y i.u i.v }

unfoldable pub outcome : Input → Outcome
outcome i = after_checks (refused i) (done i) (check i)
