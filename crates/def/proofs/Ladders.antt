-- What a ladder of checks that found nothing tells of each.
-- Assumes nothing.
use Rattle.std.specs.Prelude.{Ok, Err}
use mathlib.Core.Path.{◌≡◌, refl}
use mathlib.Core.Bool.{Bool, true, false}
use Rattle.laws.specs.Call.{unless}
use Rattle.def.specs.declared.Refusal.{Refusal}
use Rattle.def.specs.Answers.{Answer}

-- the first test of the ladder holds, and what is left of it finds nothing either
pub record Passes (t : Bool) (k : Answer) : Type 0 where
  pub holds : t ≡ true
  pub rest : k ≡ Ok tt

pub passes : (t : Bool) (r : Refusal) (k : Answer) → unless t (Err r) k ≡ Ok tt → Passes t k
passes true r k e = record { holds = refl; rest = e }
passes false r k e = record { holds = cc; rest = cc }
