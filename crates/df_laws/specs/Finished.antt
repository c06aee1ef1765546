-- Finished planes hold no sample over 1023: those of every picture that `deblock` accepts, and of every one that was joined from its bands. It stands beside
-- `Kept` of `Demand3`. The proof is `finished`, in proofs/.
-- Assumes nothing: these are definitions.
use Rattle.std.specs.Prelude.{true, ◌≡◌}
use Rattle.samples.specs.Samples.{samples_ok}
use Rattle.df_laws.specs.Bands.{Plane, plane_after, plane_of, state_after, bands, Joined}
use Rattle.df.specs.Deblock.{Input, outcome}

pub record Finished (i : Input) : Type 0 where
  pub small : (outcome i).reading.number ≡ 0 → (x : Plane) → samples_ok (plane_after x (outcome i)) ≡ true
  pub small_by_bands : Joined i → (x : Plane) → samples_ok (plane_of x (state_after i (bands i))) ≡ true
