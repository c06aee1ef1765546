-- `band_rows::rows_above` meets its contract: band 0 has none above it. Assumes nothing.
use Prim.Native.Nat.{ℕ, zero, suc}
use mathlib.Core.Path.{◌≡◌, refl, sym, ap}
use native.Mathlib.Omega.{arith}
use Rattle.band_rows.specs.Rows.{rows_above}
use Rattle.band_rows.proofs.rows_above.Statement.{statement}
use Rattle.band_rows.proofs.rows_above.Tie as tie

none : (k : ℕ) → k ≡ 0 → 0 ≡ rows_above k
none k e = ap rows_above (sym e)

some : (k : ℕ) → (k ≡ 0 → ⊥) → 16 ≡ rows_above k
some zero n = absurd (n refl)
some (suc k) n = refl

pub rows_above_spec : {M : Type 1} → statement M
rows_above_spec = tie.close (tie.spec (λ c. none _ (omega arith)) (λ c. some _ (omega arith)))
