-- What a caller sees tells all answers of a call apart.
-- Assumes nothing.
use mathlib.Core.Path.{◌≡◌, ap₂}
use Prim.Native.Nat.{ℕ}
use Rattle.def.specs.Answers.{Answer, answer_number}
use Rattle.def.proofs.Answers.{answer_apart}
use Rattle.pack.specs.declared.Placed.{Placed}

-- an answer's number and position
pub record Reading : Type 0 where
  pub number : ℕ
  pub at : ℕ

abbrev pub reading_of : Placed → Reading
reading_of r = record { number = answer_number r.answer; at = r.at }

pub placed_apart : (a b : Placed) → reading_of a ≡ reading_of b → a ≡ b
placed_apart a b e = ap₂ (λ (x : Answer) (n : ℕ). record { answer = x; at = n }) (answer_apart a.answer b.answer (λ i. (e i).number)) (λ i. (e i).at)
