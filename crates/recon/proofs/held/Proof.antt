-- `recon::held` meets its contract: the comparisons are the clip. Assumes nothing.
use mathlib.Core.Path.{◌∙◌}
use mir.Syntax.{w16}
use Rattle.laws.proofs.Widths.{back}
use Rattle.recon.proofs.Residuals.{held_low, held_high, held_within}
use Rattle.recon.proofs.held.Statement.{statement}
use Rattle.recon.proofs.held.Tie as tie

pub held_spec : {M : Type 1} → statement M
held_spec =
    tie.close
    (tie.spec
    (λ c. held_low c.args.r (cc (back w16 c.args.r c.ranges.r)))
    (λ c. held_high c.args.r (cc (back w16 c.args.r c.ranges.r)))
    (λ c. back w16 c.args.r c.ranges.r ∙ held_within c.args.r (cc (back w16 c.args.r c.ranges.r)) (cc (back w16 c.args.r c.ranges.r))))
