-- The reading tells all answers apart.
-- Assumes nothing.
use Rattle.std.specs.Prelude.{Ok, Err, Result}
use mathlib.Core.Path.{◌≡◌, ap}
use native.Mathlib.Omega.{arith}
use Rattle.def.specs.declared.Refusal.{Refusal}
use Rattle.def.proofs.Answers.{number_apart, number_some}
use Rattle.avail.specs.declared.Neighbours.{Neighbours}
use Rattle.avail.specs.Calls.{Reading, reading_of}

pub reading_apart : (a b : Result Neighbours Refusal) → reading_of a ≡ reading_of b → a ≡ b
reading_apart (Ok m) (Ok n) e = ap Ok (ap (λ (r : Reading). r.neighbours) e)
reading_apart (Ok m) (Err r) e = absurd (omega (arith, number_some r, ap (λ (r : Reading). r.number) e))
reading_apart (Err r) (Ok n) e = absurd (omega (arith, number_some r, ap (λ (r : Reading). r.number) e))
reading_apart (Err r) (Err s) e = ap Err (number_apart r s (ap (λ (r : Reading). r.number) e))
