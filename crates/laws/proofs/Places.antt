-- A place of a plane or a map whose length is the product of its sides.
-- Assumes nothing.
use Prim.Native.Nat.{ℕ, ◌+◌, ◌*◌, ◌<◌}
use mathlib.Core.Path.{◌≡◌}
use native.Mathlib.Nat.{mul_comm}
use Rattle.laws.proofs.Flat.{flat_within}

-- column c, row r of n elements, w wide and h high
pub place_below : (w h c r n : ℕ) → c < w → r < h → n ≡ w * h → r * w + c < n
place_below w h c r n p q e = rw (e, mul_comm w h) (flat_within r c w h p q)
