-- Gathering by its checks: those of the form, and past them that of the samples.
--     formed    where the form passes: the block, the lent slices and the run's length
--     form_refused, form_passed    a call's outcome, by what the checks of its form answered
--     samples_refused, samples_passed    and past those, by whether its samples passed
--     gathered_long, gathered_samples    what callers may cite of an answer of 0: the run's length, and that its elements are samples
--     refused_kept    any other answer leaves the run
-- Assumes nothing.
use Rattle.std.specs.Prelude.{Ok, Err}
use Prim.Native.Nat.{ℕ, ◌≤◌, ◌<◌}
use mathlib.Core.Path.{◌≡◌, refl, sym, ◌∙◌}
use mathlib.Core.Bool.{Bool, true, false}
use mathlib.Core.List.{List}
use native.Mathlib.Omega.{arith}
use borrow.Author.Tests.{eqb-true}
use lib.Dec.{eqb}
use lib.ListN.{length, get_or}
use Rattle.laws.specs.Call.{unless}
use Rattle.def.specs.Answers.{answer_number, after_checks}
use Rattle.def.specs.Blocks.{block_ok}
use Rattle.def.specs.Picture.{size_ok}
use Rattle.def.specs.declared.Refusal.{Refusal}
use Rattle.def.specs.declared.Refusal.TheVariants.{Size, Length, Sample, Block}
use Rattle.def.specs.Answers.{Answer}
use Rattle.def.proofs.Answers.{number_some}
use Rattle.def.proofs.Ladders.{passes}
use Rattle.nbr.specs.Gather.{Around, Input, Outcome, run_length, run_of, lengths_ok, samples_ok, samples_check, check_of, check, refused, done, outcome}
use Rattle.nbr.specs.Checks.{form_of, gathered}
use Rattle.nbr.specs.Arms.{BlockOf, Lent}
use Rattle.nbr.proofs.Runs.{lent_of, run_long, run_samples}

-- what the checks of the form find
abbrev form : Around → ℕ → Answer
form i run = form_of i.component i.w i.h i.x i.y i.side (length i.plane) (length i.words) run

pub record Formed (i : Around) (run : ℕ) : Type 0 where
  pub block : BlockOf i.w i.h i.x i.y i.side
  pub lent : Lent i.component i.w i.h i.plane i.words
  pub run_whole : run ≡ run_length i.component i.side

pub formed : (i : Around) (run : ℕ) → form i run ≡ Ok tt → Formed i run
unfolding form_of
formed i run e =
    let p = passes _ Size _ e in
    let q = passes _ Length _ p.rest in
    let r = passes _ Block _ q.rest in
    let s = passes _ Length _ r.rest in
    record {
      block = record { size = p.holds; block = r.holds };
      lent = lent_of _ _ _ _ _ q.holds;
      run_whole = eqb-true _ _ s.holds;
    }

-- ---- the rule's checks are those of the form and then that of the samples

in_turn_lem : (a b c d : Bool) (k : Answer) → unless a (Err Size) (unless b (Err Length) (unless c (Err Block) (unless d (Err Length) k))) ≡ after_checks Err k
    (unless a (Err Size) (unless b (Err Length) (unless c (Err Block) (unless d (Err Length) (Ok tt)))))
in_turn_lem false b c d k = refl
in_turn_lem true false c d k = refl
in_turn_lem true true false d k = refl
in_turn_lem true true true false k = refl
in_turn_lem true true true true k = refl

check_is : (i : Around) (run : ℕ) → check_of i run ≡ after_checks Err (samples_check i) (form i run)
unfolding check_of form_of
check_is i run =
    in_turn_lem (size_ok i.w i.h) (lengths_ok i.component i.w i.h (length i.plane) (length i.words)) (block_ok i.w i.h i.x i.y i.side)
    (eqb run (run_length i.component i.side)) (samples_check i)

module _ (i : Input) where
  abbrev form_of_lem : Answer
  form_of_lem = form i.around (length i.run)

  -- a is what the code's checks of the form answered
  pub form_refused : (a : Answer) (r : Refusal) → a ≡ form_of_lem → a ≡ Err r → refused i r ≡ outcome i
  unfolding outcome
  form_refused a r e q = rw (check_is i.around (length i.run), sym e ∙ q)

  pub form_passed : (a : Answer) → a ≡ form_of_lem → a ≡ Ok tt → gathered i ≡ outcome i
  unfolding outcome gathered
  form_passed a e q = rw (check_is i.around (length i.run), sym e ∙ q)

  -- and `pass` what its samples did
  pub samples_refused : (pass : Bool) → pass ≡ samples_ok i.around → pass ≡ false → refused i Sample ≡ gathered i
  unfolding gathered
  samples_refused pass e h = rw (sym e ∙ h)

  pub samples_passed : (pass : Bool) (l : List ℕ) → pass ≡ samples_ok i.around → pass ≡ true → l ≡ run_of i.around → ◌≡◌ {A = Outcome} (record { number = 0; run = l }) (gathered i)
  unfolding gathered
  samples_passed pass l e h q = rw (sym e ∙ h, q)

-- ---- the promises

past_form : (a k : Answer) → after_checks Err k a ≡ Ok tt → k ≡ Ok tt
past_form (Ok _) k e = e
past_form (Err r) k e = cc

samples_hold : (i : Around) (run : ℕ) → check_of i run ≡ Ok tt → samples_ok i ≡ true
samples_hold i run e = (passes _ Sample (Ok tt) (past_form (form i run) _ (sym (check_is i run) ∙ e))).holds

module _ (i : Input) where
  abbrev after : Answer → List ℕ
  after a = (after_checks (refused i) (done i) a).run

  abbrev long : ℕ
  long = run_length i.around.component i.around.side

  long_after : (a : Answer) → answer_number a ≡ 0 → length (after a) ≡ long
  long_after (Ok _) n = run_long i.around
  long_after (Err r) n = absurd (omega (arith, number_some r))

  samples_after : (a : Answer) → check i ≡ a → answer_number a ≡ 0 → (k : ℕ) → k < long → get_or (after a) k 0 ≤ 1023
  samples_after (Ok _) e n = run_samples i.around (samples_hold i.around (length i.run) e)
  samples_after (Err r) e n = absurd (omega (arith, number_some r))

  number_after_lem : (a : Answer) → (after_checks (refused i) (done i) a).number ≡ answer_number a
  number_after_lem (Ok _) = refl
  number_after_lem (Err r) = refl

  kept_after : (a : Answer) → (answer_number a ≡ 0 → ⊥) → after a ≡ i.run
  kept_after (Ok _) n = absurd (n refl)
  kept_after (Err r) n = refl

  -- an answer of 0: the run has its length, and every element is a sample
  pub gathered_long : (outcome i).number ≡ 0 → length (outcome i).run ≡ long
  unfolding outcome
  gathered_long e = long_after (check i) (sym (number_after_lem (check i)) ∙ e)

  pub gathered_samples : (outcome i).number ≡ 0 → (k : ℕ) → k < long → get_or (outcome i).run k 0 ≤ 1023
  unfolding outcome
  gathered_samples e = samples_after (check i) refl (sym (number_after_lem (check i)) ∙ e)

  -- any other answer leaves it
  pub refused_kept : ((outcome i).number ≡ 0 → ⊥) → (outcome i).run ≡ i.run
  unfolding outcome
  refused_kept n = kept_after (check i) (λ e. n (number_after_lem (check i) ∙ e))
