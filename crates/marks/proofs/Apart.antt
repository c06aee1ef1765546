-- A reading tells all answers of its call apart.
-- Assumes nothing.
use Rattle.std.specs.Prelude.{Ok, Err, Result, ℕ}
use mathlib.Core.Path.{◌≡◌, sym, ap}
use native.Mathlib.Omega.{arith}
use Rattle.def.specs.Refusals.{number_of}
use Rattle.def.specs.declared.Refusal.{Refusal}
use Rattle.def.proofs.Answers.{number_apart, number_some}
use Rattle.marks.specs.ListCall as list-call

-- no refusal reads as done
never : (r : Refusal) → number_of r ≡ 0 → ⊥
never r e = omega (arith, number_some r)

pub marks_apart : (a b : Result ℕ Refusal) → list-call.reading_of a ≡ list-call.reading_of b → a ≡ b
marks_apart (Ok m) (Ok n) e = ap Ok (ap (λ (r : list-call.Reading). r.count) e)
marks_apart (Ok m) (Err r) e = absurd (never r (sym (ap (λ (q : list-call.Reading). q.number) e)))
marks_apart (Err r) (Ok n) e = absurd (never r (ap (λ (q : list-call.Reading). q.number) e))
marks_apart (Err r) (Err q) e = ap Err (number_apart r q (ap (λ (z : list-call.Reading). z.number) e))
