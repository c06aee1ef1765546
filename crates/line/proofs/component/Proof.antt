-- `line::component` meets its contract: an arm for each sign of the reference. Assumes nothing.
use mathlib.Core.Path.{sym, ap, ◌∙◌}
use lib.IntN.{ℤ, pos}
use lib.Signed.{lt_z}
use mir.Syntax.{w8, w16}
use Rattle.laws.proofs.Widths.{back}
use Rattle.line.specs.Row.{counted_as}
use Rattle.line.proofs.component.Statement.{statement}
use Rattle.line.proofs.component.Tie as tie

returns : tie.Need-returns-then-refi-lt0
unfolding counted_as
returns c = rw (ap (λ (z : ℤ). lt_z z (pos 0)) (sym (back w8 _ c.ranges.refi)) ∙ c.if-refi-lt0.true)

returns-2 : tie.Need-returns-else-refi-lt0
unfolding counted_as
returns-2 c = rw (ap (λ (z : ℤ). lt_z z (pos 0)) (sym (back w8 _ c.ranges.refi)) ∙ c.if-refi-lt0.false) (back w16 _ c.ranges.m)

pub component_spec : {M : Type 1} → statement M
component_spec = tie.close (tie.spec returns returns-2)
