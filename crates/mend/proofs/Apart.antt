-- A reading tells all answers of the call apart.
-- Assumes nothing.
use Rattle.std.specs.Prelude.{Ok, Err, Result, ℕ}
use mathlib.Core.Path.{◌≡◌, sym, ap}
use native.Mathlib.Omega.{arith}
use Rattle.def.specs.Refusals.{number_of}
use Rattle.def.specs.declared.Refusal.{Refusal}
use Rattle.def.proofs.Answers.{number_apart, number_some}
use Rattle.mend.specs.MendCall.{reading_of}

-- no refusal reads as done
never : {A : Type 0} (r : Refusal) → number_of r ≡ 0 → A
never r e = absurd (omega (arith, number_some r))

pub mended_apart : (a b : Result ℕ Refusal) → reading_of a ≡ reading_of b → a ≡ b
mended_apart (Ok m) (Ok n) e = ap Ok (λ i. (e i).count)
mended_apart (Ok m) (Err r) e = never r (λ i. (sym e i).number)
mended_apart (Err r) (Ok n) e = never r (λ i. (e i).number)
mended_apart (Err r) (Err q) e = ap Err (number_apart r q (λ i. (e i).number))
