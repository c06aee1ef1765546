-- Planes that deblocking finished: 7 never comes for them. The proof is `never_7`, in proofs/.
-- Assumes nothing: these are definitions.
use Rattle.std.specs.Prelude.{List, ◌≡◌, ℕ}
use Rattle.decoder.specs.Face.bands.{Plane, luma_plane, u_plane, v_plane, plane_after, plane_of, state_after, bands, Joined}
use Rattle.decoder.specs.Face.deblocking as deblocking
use Rattle.ward.specs.RowCall.{Input, outcome}

-- the planes that a call is lent, by their names
abbrev pub lent_as : Plane → Input → List ℕ
lent_as luma_plane j = j.y
lent_as u_plane j = j.u
lent_as v_plane j = j.v

-- i is what deblocking was lent, j a row's call over the planes that it left
pub record Never7 (i : deblocking.Input) (j : Input) : Type 0 where
  -- of a picture that `deblock` accepted
  pub whole : (deblocking.outcome i).reading.number ≡ 0 → ((x : Plane) → lent_as x j ≡ plane_after x (deblocking.outcome i)) → (outcome j).reading.number ≡ 7 → ⊥
  -- of a picture that was joined from its bands
  pub by_bands : Joined i → ((x : Plane) → lent_as x j ≡ plane_of x (state_after i (bands i))) → (outcome j).reading.number ≡ 7 → ⊥
