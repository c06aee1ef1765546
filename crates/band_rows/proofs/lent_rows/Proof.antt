-- `band_rows::lent_rows` meets its contract: of a band's rows of samples above, four are judged. Assumes nothing.
use Prim.Native.Nat.{ℕ, zero, suc, ◌+◌, ◌-◌, ◌*◌, ◌/◌}
use mathlib.Core.Path.{◌≡◌, refl, ap, ◌∙◌}
use native.Mathlib.Omega.{arith}
use borrow.Author.Rules.{rules}
use Rattle.band_rows.specs.Rows.{band_rows, rows_above}
use Rattle.band_rows.proofs.Bands.{few_above, few_rows}
use Rattle.band_rows.proofs.lent_rows.Statement.{statement}
use Rattle.band_rows.proofs.lent_rows.Tie as tie

unjudged : (k : ℕ) → 4 * rows_above k - 4 * rows_above k / 16 ≡ 4 * (rows_above k - 1)
unjudged zero = refl
unjudged (suc k) = refl

mul_own : tie.Need-overflow_mul-own
mul_own c = omega (arith, c.band_rows-own.ensures, few_rows (c.args.h / 4) c.args.band)

mul_above : tie.Need-overflow_mul-above
mul_above c = omega (arith, c.rows_above-above.ensures, (few_above c.args.band).1)

add_t6 : tie.Need-overflow_add-result
add_t6 c =
    let a = c.args in
    omega (arith, c.band_rows-own.ensures, few_rows (a.h / 4) a.band, c.rows_above-above.ensures, (few_above a.band).1)

returns : tie.Need-returns
returns c =
    let a = c.args in
    let rows = c.band_rows-own in
    let above = c.rows_above-above in
    let all : 4 * above.result + 4 * rows.result ≡ 4 * (rows_above a.band + band_rows (a.h / 4) a.band) = omega (arith, rows.ensures, above.ensures) in
    let before = ap (λ (n : ℕ). 4 * n - 4 * n / 16) above.ensures ∙ unjudged a.band in
    λ i. record { all = all i; own = 4 * rows.ensures i; before = before i }

pub lent_rows_spec : {M : Type 1} → statement M
lent_rows_spec = tie.close (tie.spec (λ c κs. search rules) mul_own (λ c κs. search rules) mul_above (λ c. search rules) add_t6 returns)
