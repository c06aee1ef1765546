-- The outcome of the call that sets a flag, by what the checks found: `flag_refused`, `flag_done`.
-- Assumes nothing.
use Rattle.std.specs.Prelude.{Ok, Err}
use Prim.Native.Nat.{ℕ, ◌/◌}
use mathlib.Core.Path.{◌≡◌, ◌∙◌}
use mathlib.Core.List.{List}
use lib.ListN.{get_or, set}
use Rattle.laws.specs.Call.{Gives}
use Rattle.def.specs.declared.Refusal.{Refusal}
use Rattle.def.specs.Answers.{Answer}
use Rattle.def.proofs.Answers.{on_refusal, on_done}
use Rattle.rows_rules.specs.Rule.{edited_map}
use Rattle.unit_edits.specs.FlagCall as flag

-- k is what the checks answered
module _ (i : flag.Input) (k : Answer) (e : k ≡ flag.check i) where
  pub flag_refused : (r : Refusal) → k ≡ Err r → Gives flag.outcome i (flag.refused i r)
  unfolding flag.outcome
  flag_refused r q = on_refusal (flag.refused i) (flag.done i) k (flag.check i) r e q

  pub flag_done : (words rows : List ℕ) → k ≡ Ok tt → words ≡ set i.words (flag.place i) (flag.with_flag i.flag i.on (get_or i.words (flag.place i) 0))
      → rows ≡ edited_map words i.motion i.refs (i.w / 4) (flag.place i) i.rows → Gives flag.outcome i (record { number = 0; words = words; rows = rows })
  unfolding flag.outcome
  flag_done words rows q f p =
      on_done (flag.refused i) (flag.done i) k (flag.check i) _ e q
      (λ t. record { number = 0; words = f t; rows = (p ∙ (λ s. edited_map (f s) i.motion i.refs (i.w / 4) (flag.place i) i.rows)) t })
