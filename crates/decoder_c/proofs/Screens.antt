-- The ward screen's call in numbers: from the answer's reading to what is handed back. Assumes nothing.
use Prim.Native.Nat.{ℕ}
use mathlib.Core.List.{List}
use mathlib.Core.Path.{◌≡◌, ap, ap₂, ◌∙◌}
use Rattle.laws.specs.Call.{Gives}
use Rattle.ward.specs.RowCall as call
use Rattle.decoder_c.specs.Screen.{Numbers, Outcome, numbers_of, row_outcome}

abbrev both : Numbers → List ℕ → Outcome
both n l = record { seen = n; out = l }

pub in_numbers : (i : call.Input) (o : call.Outcome) (n : Numbers) → n ≡ numbers_of o.reading → Gives call.outcome i o → Gives row_outcome i (record { seen = n; out = o.out })
in_numbers i o n e g = ap₂ both (e ∙ ap (λ (x : call.Outcome). numbers_of x.reading) g) (ap (λ (x : call.Outcome). x.out) g)
