-- Outcomes of `ipred_b` by what its tests found.
--     side_refused, length_refused, goes_to_data    the tests of 8 and 2
--     bad_sample, good_samples    the test of 7, which is made for a mode that there is
--     no_mode, at_mode    the decision: a number that is no mode's, and the arm of mode k
--     lent    a side and lengths that pass
-- Assumes nothing.
use Rattle.std.specs.Prelude.{Ok, Err}
use Prim.Native.Nat.{ℕ, ◌+◌, ◌*◌, ◌≤◌, ◌<◌}
use mathlib.Core.Path.{◌≡◌, refl, sym, ap, ◌∙◌}
use mathlib.Core.Bool.{Bool, true, false, not, ◌&&◌}
use mathlib.Core.List.{List, [], ◌∷◌}
use native.Mathlib.Omega.{arith}
use borrow.Author.Tests.{eqb-true, le-leb, lt-leb}
use lib.Dec.{eqb}
use lib.ListN.{length}
use Rattle.laws.specs.Call.{Gives}
use Rattle.laws.proofs.Calls.{all_at, stops, goes_on, at_refusal, past_refusal}
use Rattle.def.specs.Blocks.{component_side_ok}
use Rattle.def.specs.Answers.{after_checks}
use Rattle.def.specs.declared.Refusal.TheVariants.{Block, Length, Mode, Sample}
use Rattle.def.proofs.Answers.{on_refusal, on_done}
use Rattle.def.proofs.Sides.{component_side}
use Rattle.samples.specs.Samples.{samples_ok}
use Rattle.ipred.specs.Modes.{predicted, block_of}
use Rattle.ipred.specs.Predict.{Input, Outcome, Lent, lengths_ok, mode_ok, data_check, check, refused, done, chosen, outcome}

-- ---- 8 and 2: `side` and `long` are what the code found

module _ (i : Input) (side : Bool) (is-side : side ≡ component_side_ok i.side) where
  pub side_refused : not side ≡ true → Gives outcome i (refused i Block)
  unfolding outcome
  side_refused n = on_refusal (refused i) (done i) (Err Block) (check i) Block (stops side (component_side_ok i.side) _ _ is-side n) refl

  module _ (n : not side ≡ false) (long : Bool) (is-long : long ≡ lengths_ok i.side (length i.run) (length i.block)) where
    pub length_refused : not long ≡ true → Gives outcome i (refused i Length)
    unfolding outcome
    length_refused m =
        on_refusal (refused i) (done i) (Err Length) (check i) Length
        (goes_on side (component_side_ok i.side) _ _ _ is-side n (stops long _ _ _ is-long m)) refl

    pub goes_to_data : (o : Outcome) → not long ≡ false → Gives chosen i o → Gives outcome i o
    unfolding outcome chosen
    goes_to_data o m p = p ∙ ap (after_checks (refused i) (done i)) (goes_on side (component_side_ok i.side) _ _ _ is-side n (goes_on long _ _ _ _ is-long m refl))

-- ---- 9 and 7: `seen` is what the scan of the run answered

both_left : (a b : Bool) → (a && not b) ≡ true → a ≡ true
both_left true b e = refl
both_left false b e = e

both_right : (a b : Bool) → (a && not b) ≡ true → b ≡ false
both_right true true e = sym e
both_right true false e = refl
both_right false b e = cc

passed : (a b : Bool) → (a && not b) ≡ false → a ≡ true → b ≡ true
passed true true e p = refl
passed true false e p = sym e
passed false b e p = cc

pub good_samples : (mode : ℕ) (run : List ℕ) (seen : Bool) → seen ≡ samples_ok run → (mode_ok mode && not seen) ≡ false → mode ≤ 4 → samples_ok run ≡ true
good_samples mode run seen is e p = sym is ∙ passed (mode_ok mode) seen e (le-leb mode 4 p)

module _ (i : Input) (seen : Bool) (is : seen ≡ samples_ok i.run) where
  pub bad_sample : (mode_ok i.mode && not seen) ≡ true → Gives chosen i (refused i Sample)
  unfolding chosen
  bad_sample e =
      on_refusal (refused i) (done i) (Err Sample) (data_check i) Sample
      (past_refusal (mode_ok i.mode) _ _ _ (both_left (mode_ok i.mode) seen e) (at_refusal (samples_ok i.run) _ _ (sym is ∙ both_right (mode_ok i.mode) seen e))) refl

  -- k and n are what the code knows of the mode and of the side
  pub at_mode : (k n : ℕ) (block : List ℕ) → (mode_ok i.mode && not seen) ≡ false → i.mode ≡ k → i.side ≡ n → k ≤ 4
      → block ≡ block_of n (predicted k n i.run) → Gives chosen i (record { number = 0; block = block })
  unfolding chosen
  at_mode k n block e q s p b =
      on_done (refused i) (done i) (Ok tt) (data_check i) _
      (past_refusal (mode_ok i.mode) _ _ _ (le-leb i.mode 4 (omega arith)) (past_refusal (samples_ok i.run) _ _ _ (good_samples i.mode i.run seen is e (omega arith)) refl))
      refl
      (ap (λ (l : List ℕ). record { number = 0; block = l }) (rw (q, s) b))

pub no_mode : (i : Input) → 4 < i.mode → Gives chosen i (refused i Mode)
unfolding chosen
no_mode i p = on_refusal (refused i) (done i) (Err Mode) (data_check i) Mode (at_refusal (mode_ok i.mode) _ _ (lt-leb i.mode 4 p)) refl

pub lent : (side : ℕ) (run block : List ℕ) → component_side_ok side ≡ true → lengths_ok side (length run) (length block) ≡ true → Lent side run block
unfolding lengths_ok
lent side run block s l =
    record {
      least = (component_side side s).least;
      most = (component_side side s).most;
      run_long = eqb-true _ _ (all_at (eqb (length run) (4 * side + 1) ∷ eqb (length block) (side * side) ∷ []) 0 l);
      block_long = eqb-true _ _ (all_at (eqb (length run) (4 * side + 1) ∷ eqb (length block) (side * side) ∷ []) 1 l);
    }
