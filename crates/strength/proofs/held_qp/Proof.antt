-- `strength::held_qp` meets its contract: the comparisons are the clip. Assumes nothing.
use mathlib.Core.Path.{◌≡◌}
use native.Mathlib.Omega.{arith}
use mir.Syntax.{w8}
use mir.Val.{to_z, of_z}
use Rattle.laws.proofs.Held.{held_low, held_high, held_within}
use Rattle.laws.proofs.Widths.{back}
use Rattle.strength.proofs.held_qp.Statement.{statement}
use Rattle.strength.proofs.held_qp.Tie as tie

-- the QP, read back from its byte
at : (s : tie.Start) → to_z w8 (of_z w8 s.args.qp) ≡ s.args.qp
at s = back w8 _ s.ranges.qp

cast_result : tie.Need-overflow_cast-result
cast_result c =
    let e = at c.before.before in
    let w = held_within 51 c.args.qp (cc e) (cc e) in
    rw e (w.some, record { fits = omega (arith, w.most) })

pub held_qp_spec : {M : Type 1} → statement M
held_qp_spec =
    tie.close
    (tie.spec
    cast_result
    (λ c. held_low 51 c.args.qp (cc (at c.before)))
    (λ c. held_high 51 c.args.qp (cc (at c.before.before)))
    (λ c. let e = at c.before.before in rw e (held_within 51 c.args.qp (cc e) (cc e)).same))
