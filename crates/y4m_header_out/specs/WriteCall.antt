-- The call `write_header`: the header of a picture's stream at the start of a buffer of 256 bytes, whose rest is untouched.
-- Assumes nothing: these are definitions.
use Rattle.std.specs.Prelude.{ℕ, Bool, List, [], ◌∷◌, eqb, length, Ok, Err, Result}
use Rattle.std.proofs.lemmas.List.Edits.{sets}
use Rattle.laws.specs.Call.{unless, all_of}
use Rattle.def.specs.Answers.{after_checks}
use Rattle.def.specs.Picture.{size_ok}
use Rattle.def.specs.Refusals.{number_of}
use Rattle.def.specs.Answers.{Answer}
use Rattle.def.specs.declared.Format.{Format}
use Rattle.def.specs.declared.Refusal.{Refusal}
use Rattle.def.specs.declared.Refusal.TheVariants.{Size, Length, Setting}
use Rattle.y4m_rules.specs.Numbers.{in_range}
use Rattle.y4m_rules.specs.Frames.{colour_ok}
use Rattle.y4m_rules.specs.Header.{header_text}

pub record Input : Type 0 where
  pub format : Format
  pub w : ℕ
  pub h : ℕ
  pub f : ℕ
  pub g : ℕ
  pub a : ℕ
  pub b : ℕ
  pub out : List ℕ

-- the answer's number, and how many bytes were written
pub record Reading : Type 0 where
  pub number : ℕ
  pub count : ℕ

abbrev pub reading_of : Result ℕ Refusal → Reading
reading_of (Ok n) = record { number = 0; count = n }
reading_of (Err r) = record { number = number_of r; count = 0 }

pub record Outcome : Type 0 where
  pub reading : Reading
  pub out : List ℕ

-- a picture that has chroma, and F and A in their range
unfoldable pub numbers_ok : (c : Format) (f g a b : ℕ) → Bool
numbers_ok c f g a b = all_of (colour_ok c ∷ in_range f ∷ in_range g ∷ in_range a ∷ in_range b ∷ [])

abbrev pub check_of : (c : Format) (w h f g a b n : ℕ) → Answer
check_of c w h f g a b n =
    unless (size_ok w h) (Err Size)
    (unless (eqb n 256) (Err Length)
    (unless (numbers_ok c f g a b) (Err Setting)
    (Ok tt)))

abbrev pub check : Input → Answer
check i = check_of i.format i.w i.h i.f i.g i.a i.b (length i.out)

abbrev pub text_of : Input → List ℕ
text_of i = header_text i.w i.h i.f i.g i.a i.b

abbrev pub refused : Input → Refusal → Outcome
refused i r = record { reading = reading_of (Err r); out = i.out }

abbrev pub done : Input → Outcome
done i = record { reading = reading_of (Ok (length (text_of i))); out = sets i.out 0 (text_of i) }

unfoldable pub outcome : Input → Outcome
outcome i = after_checks (refused i) (done i) (check i)
