-- A unit's place in a map of a picture.
-- Assumes nothing.
use Prim.Native.Nat.{ℕ, ◌+◌, ◌*◌, ◌/◌, ◌≤◌, ◌<◌}
use mathlib.Core.Path.{◌≡◌}
use native.Mathlib.Nat.{mul-le-mul}
use native.Mathlib.Omega.{arith}
use Rattle.laws.proofs.Places.{place_below}
use Rattle.def.specs.Picture.{unit_count}

pub unit_below : (w h u v n : ℕ) → u < w / 4 → v < h / 4 → n ≡ unit_count w h → v * (w / 4) + u < n
unit_below w h u v n p q e = place_below (w / 4) (h / 4) u v n p q e

pub few_units : (w h : ℕ) → w ≤ 4096 → h ≤ 4096 → unit_count w h ≤ 1048576
few_units w h p q = mul-le-mul {n₂ = 1024} {m₂ = 1024} (omega arith) (omega arith)
