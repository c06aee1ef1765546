-- Laws of a contract of the form `Gives`, which has one outcome: what a caller sees of two that satisfy it is the same.
--     told    the answer, where its reading tells all answers apart
--     settled    the answer, and each slice that the call may write
-- Assumes nothing.
use mathlib.Core.Path.{◌≡◌, ap, ap₂}
use mathlib.Core.List.{List}
use Rattle.laws.specs.Call.{Gives}
use Rattle.laws.proofs.Calls.{one_outcome}
use Rattle.decoder.specs.Promise.{ended}

module _ {I O N R : Type 0} (rule : I → O) (read : O → N) where
  pub told : {i : I} {o o' : O} {r r' : R} → Gives rule i o → Gives rule i o' → (read o ≡ read o' → r ≡ r') → r ≡ r'
  told p q apart = apart (ap read (one_outcome rule _ _ _ p q))

  pub settled : {A : Type 0} (lent : O → List (List A)) {i : I} {o o' : O} {r r' : R} → Gives rule i o → Gives rule i o' → (read o ≡ read o' → r ≡ r') → ended r (lent o) ≡ ended r' (lent o')
  settled lent p q apart = ap₂ ended (told p q apart) (ap lent (one_outcome rule _ _ _ p q))
