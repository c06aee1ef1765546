-- `chroma_qp_check::delta_out` meets its contract: a byte and 128 is not below 0. Assumes nothing.
use native.Mathlib.Omega.{arith}
use mathlib.Core.Path.{◌≡◌}
use mir.Syntax.{w8, w16}
use mir.Val.{SFits, to_z, of_z}
use lib.IntN.{ℤ, pos, ◌+ℤ◌}
use Rattle.laws.proofs.Widths.{sfits, back}
use Rattle.chroma_qp_check.proofs.Bytes.{raised, raised_fits}
use Rattle.chroma_qp_check.proofs.delta_out.Statement.{statement}
use Rattle.chroma_qp_check.proofs.delta_out.Tie as tie

wider : {z : ℤ} → SFits w8 z → SFits w16 z
wider f = sfits w16 128 (omega (arith, f.sfits)) tt

-- what is read back of a byte in the wider type
read : {z : ℤ} → SFits w8 z → to_z w16 (of_z w16 (to_z w8 (of_z w8 z))) ≡ z
read {z} f = rw (back w8 z f) (back w16 z (wider f))

sum : {z : ℤ} → SFits w8 z → to_z w16 (of_z w16 (to_z w16 (of_z w16 (to_z w8 (of_z w8 z))) +ℤ pos 128)) ≡ z +ℤ pos 128
sum {z} f = rw (read f) (back w16 (z +ℤ pos 128) (raised_fits z f))

cast_result : tie.Need-overflow_cast-result
cast_result c = rw (back w8 _ c.ranges.b) (wider c.ranges.b)

add_result : tie.Need-overflow_add-result
add_result c = rw (read c.ranges.b) (raised_fits _ c.ranges.b)

cast_result_2 : tie.Need-overflow_cast-result-2
cast_result_2 c = let r = raised _ c.ranges.b in rw (sum c.ranges.b) (r.some, record { fits = omega (arith, r.most) })

returns : tie.Need-returns
returns c = let r = raised _ c.ranges.b in rw (sum c.ranges.b) (r.sum, r.most)

pub delta_out_spec : {M : Type 1} → statement M
delta_out_spec = tie.close (tie.spec cast_result add_result cast_result_2 returns)
