-- `recon::reconstructed` meets its contract: the sum in 16 bits is the whole numbers', and the comparisons clip it. Assumes nothing.
use Prim.Native.Nat.{◌≤◌}
use mathlib.Core.Path.{◌≡◌, ap, ◌∙◌}
use native.Mathlib.Omega.{arith}
use borrow.Author.Rules.{rules}
use lib.IntN.{ℤ, pos, nat_abs, ◌+ℤ◌}
use lib.Signed.{mag}
use mir.Syntax.{w16}
use mir.Val.{to_z, of_z}
use Rattle.laws.specs.Clip.{sample_z}
use Rattle.laws.proofs.Held.{held_low, held_high, held_within}
use Rattle.laws.proofs.Widths.{back}
use Rattle.recon.proofs.Residuals.{held_z, held_same, held_small, sum_fits, machine_terms, machine_sum}
use Rattle.recon.proofs.reconstructed.Statement.{statement}
use Rattle.recon.proofs.reconstructed.Tie as tie

-- the residual as it is added
held_at : (c : tie.After-held) → c.held.result ≡ held_z c.args.r
held_at c = c.held.ensures ∙ ap held_z (back w16 _ c.ranges.r)

small : (c : tie.After-held) → mag c.held.result ≤ 1023
small c = rw (held_at c) (held_small c.args.r)

abbrev sum : tie.After-held → ℤ
sum c = pos c.args.p +ℤ c.held.result

-- the sum, as the machine reads it
sum_at : (c : tie.After-held) → to_z w16 (of_z w16 (to_z w16 c.args.p +ℤ to_z w16 (of_z w16 c.held.result))) ≡ sum c
sum_at c = machine_sum _ c.held.result c.requires (small c)

same : (c : tie.After-held) → sample_z (sum c) ≡ sample_z (pos c.args.p +ℤ c.args.r)
same c = ap (λ (z : ℤ). sample_z (pos c.args.p +ℤ z)) (held_at c) ∙ held_same _ c.args.r c.requires

add_t : tie.Need-overflow_add-t
add_t c = rw (machine_terms _ c.held.result c.requires (small c)) (sum_fits _ c.held.result c.requires (small c))

cast_result : tie.Need-overflow_cast-result
cast_result c =
    let e = sum_at c.before.before in
    let w = held_within 1023 (sum c.before.before) (cc e) (cc e) in
    rw e (w.some, record { fits = omega (arith, w.most) })

pub reconstructed_spec : {M : Type 1} → statement M
unfolding sample_z
reconstructed_spec =
    tie.close
    (tie.spec
    (λ c. search rules)
    (λ c κs. search rules)
    add_t
    cast_result
    (λ c. held_low 1023 (sum c.before) (cc (sum_at c.before)) ∙ same c.before)
    (λ c. held_high 1023 (sum c.before.before) (cc (sum_at c.before.before)) ∙ same c.before.before)
    (λ c.
    let e = sum_at c.before.before in
    ap nat_abs e ∙ (held_within 1023 (sum c.before.before) (cc e) (cc e)).same ∙ same c.before.before))
