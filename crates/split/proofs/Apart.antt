-- A reading tells all answers of its call apart.
-- Assumes nothing.
use Rattle.std.specs.Prelude.{Ok, Err, Result, ℕ}
use mathlib.Core.Path.{◌≡◌, sym, ap, ap₂}
use native.Mathlib.Omega.{arith}
use Rattle.def.specs.Refusals.{number_of}
use Rattle.def.specs.declared.Refusal.{Refusal}
use Rattle.def.proofs.Answers.{number_apart, number_some}
use Rattle.split.specs.LeavesCall as leaves-call
use Rattle.split.specs.ListCall as list-call
use Rattle.split.specs.declared.EdgeCounts.{EdgeCounts}

-- no refusal reads as done
never : (r : Refusal) → number_of r ≡ 0 → ⊥
never r e = omega (arith, number_some r)

pub leaves_apart : (a b : Result ℕ Refusal) → leaves-call.reading_of a ≡ leaves-call.reading_of b → a ≡ b
leaves_apart (Ok m) (Ok n) e = ap Ok (ap (λ (r : leaves-call.Reading). r.count) e)
leaves_apart (Ok m) (Err r) e = absurd (never r (sym (ap (λ (q : leaves-call.Reading). q.number) e)))
leaves_apart (Err r) (Ok n) e = absurd (never r (ap (λ (q : leaves-call.Reading). q.number) e))
leaves_apart (Err r) (Err q) e = ap Err (number_apart r q (ap (λ (z : leaves-call.Reading). z.number) e))

abbrev counts : ℕ → ℕ → EdgeCounts
counts m n = record { vertical = m; horizontal = n }

pub list_apart : (a b : Result EdgeCounts Refusal) → list-call.reading_of a ≡ list-call.reading_of b → a ≡ b
list_apart (Ok c) (Ok d) e = ap Ok (ap₂ counts (ap (λ (r : list-call.Reading). r.vertical) e) (ap (λ (r : list-call.Reading). r.horizontal) e))
list_apart (Ok c) (Err r) e = absurd (never r (sym (ap (λ (q : list-call.Reading). q.number) e)))
list_apart (Err r) (Ok d) e = absurd (never r (ap (λ (q : list-call.Reading). q.number) e))
list_apart (Err r) (Err q) e = ap Err (number_apart r q (ap (λ (z : list-call.Reading). z.number) e))
