-- What `split::check` answers where 1 and 2 have passed: the walk's 4 or 5, or done.
-- Assumes nothing.
use Rattle.std.specs.Prelude.{Ok, Err}
use Prim.Native.Nat.{ℕ, ◌*◌, ◌/◌}
use mathlib.Core.Path.{◌≡◌, refl, ap, ◌∙◌}
use mathlib.Core.Bool.{true}
use mathlib.Core.List.{List}
use borrow.Author.Tests.{eq-eqb}
use lib.ListN.{length}
use Rattle.laws.specs.Call.{Gives}
use Rattle.def.specs.Answers.{answer_number, after_checks}
use Rattle.def.specs.Picture.{size_ok, root_count}
use Rattle.def.specs.Refusals.{number_of}
use Rattle.def.specs.Answers.{Answer}
use Rattle.def.proofs.Answers.{answer_apart}
use Rattle.split.specs.CheckCall as check-call
use Rattle.split.specs.Picture.{picture_walk}

-- an outcome that is a number alone has the number of what was found
number_of_lem : (k : Answer) → after_checks (λ r. check-call.numbered (number_of r)) (check-call.numbered 0) k ≡ check-call.numbered (answer_number k)
number_of_lem (Ok _) = refl
number_of_lem (Err r) = refl

found : (i : check-call.Input) (r : Answer) → Gives check-call.outcome i (check-call.numbered (answer_number r)) → r ≡ check-call.check i
unfolding check-call.outcome
found i r e = answer_apart r (check-call.check i) (ap (λ (o : check-call.Outcome). o.number) (e ∙ number_of_lem (check-call.check i)))

pub walked : (w h : ℕ) (splits : List ℕ) (r : Answer) → size_ok w h ≡ true → length splits ≡ 1024 * root_count w h
    → Gives check-call.outcome (record { w = w; h = h; splits = splits }) (check-call.numbered (answer_number r)) → r ≡ (picture_walk splits (w / 4) (h / 4)).answer
unfolding check-call.check
walked w h splits r size long e = found (record { w = w; h = h; splits = splits }) r e ∙ rw (size, eq-eqb _ _ long)
