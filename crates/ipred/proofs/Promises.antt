-- What callers cite of `ipred_b`.
--     predicted_small    every sample of a prediction is at most 1023, whatever the mode
--     prediction_ok     so a predicted block passes the test of samples, as what comes after it asks
--     predicts     a call whose input is right is done, and does not refuse
-- Assumes nothing.
use Prim.Native.Nat.{ℕ, zero, suc, ◌+◌, ◌*◌, ◌/◌, ◌%◌, ◌≤◌, ◌<◌}
use mathlib.Core.Path.{◌≡◌, subst}
use mathlib.Core.Bool.{true}
use mathlib.Core.List.{List}
use native.Mathlib.Omega.{arith}
use borrow.Author.Tests.{le-leb, eq-eqb}
use lib.Dec.{ltb, eqb}
use lib.ListN.{length, get_or}
use Rattle.laws.specs.Call.{Gives}
use Rattle.laws.proofs.Tabulate.{length_tabulate, get_d_tabulate}
use Rattle.def.specs.Blocks.{component_side_ok}
use Rattle.def.proofs.Sides.{component_side}
use Rattle.samples.specs.Samples.{samples_ok}
use Rattle.samples.proofs.Samples.{sample_any, samples_pass, one_of_two}
use Rattle.ipred.specs.Modes.{left, up, sum_below, dc, up_left, up_right, predicted, block_of}
use Rattle.ipred.specs.Predict.{Input, lengths_ok, done, outcome}
use Rattle.ipred.proofs.Dc.{halved_side, mean_most}
use Rattle.ipred.proofs.Sums.{sum_most}

module _ (side : ℕ) (run : List ℕ) (ok : component_side_ok side ≡ true) (good : samples_ok run ≡ true) where
  -- each sample of the run, at every place
  at : (k : ℕ) → get_or run k 0 ≤ 1023
  at k = sample_any run k good

  dc_small : (i j : ℕ) → dc side run i j ≤ 1023
  unfolding dc
  dc_small i j =
      let s = sum_below (left run) side + sum_below (up side run) side in
      let some : 0 < side = omega (arith, (component_side side ok).least) in
      let few : s ≤ 1023 * side + 1023 * side = omega (arith, sum_most (left run) 1023 side (λ k p. at k), sum_most (up side run) 1023 side (λ k p. at (2 * side + 1 + k))) in
      rw (halved_side side ok) (mean_most 1023 side s some few)

  pub predicted_small : (mode i j : ℕ) → predicted mode side run i j ≤ 1023
  unfolding predicted up_left up_right
  predicted_small zero i j = dc_small i j
  predicted_small (suc zero) i j = at i
  predicted_small (suc (suc zero)) i j = at (2 * side + 1 + j)
  predicted_small (suc (suc (suc zero))) i j =
      one_of_two (ltb j i) _ _ (at _) (one_of_two (eqb j i) _ _ (at (2 * side)) (at _))
  predicted_small (suc (suc (suc (suc zero)))) i j = omega (arith, at (2 * side + 1 + (i + j + 1)), at (i + j + 1))
  predicted_small (suc (suc (suc (suc (suc mode))))) i j = omega arith

  sample_small : (mode k : ℕ) → k < length (block_of side (predicted mode side run)) → get_or (block_of side (predicted mode side run)) k 0 ≤ 1023
  sample_small mode k p =
      let q : k < side * side = subst (λ (n : ℕ). k < n) (length_tabulate _ (side * side)) p in
      rw (get_d_tabulate (λ (n : ℕ). predicted mode side run (n / side) (n % side)) (side * side) k 0 q) (predicted_small mode (k / side) (k % side))

  pub prediction_ok : (mode : ℕ) → samples_ok (block_of side (predicted mode side run)) ≡ true
  prediction_ok mode = samples_pass (block_of side (predicted mode side run)) (sample_small mode)

pub predicts : (i : Input) → component_side_ok i.side ≡ true → length i.run ≡ 4 * i.side + 1 → length i.block ≡ i.side * i.side
    → i.mode ≤ 4 → samples_ok i.run ≡ true → Gives outcome i (done i)
unfolding outcome lengths_ok
predicts i s a b m g = rw (s, eq-eqb _ _ a, eq-eqb _ _ b, le-leb i.mode 4 m, g)
