-- `mpm::up_mode` meets its contract: none at the edge, and else the mode of the unit above it. Assumes nothing.
use mathlib.Core.Path.{◌∙◌}
use native.Mathlib.Omega.{arith}
use borrow.Author.Rules.{rules}
use borrow.Author.Tests.{le-ltb, lt-ltb}
use Rattle.mpm.proofs.up_mode.Statement.{statement}
use Rattle.mpm.proofs.up_mode.Tie as tie

returns : tie.Need-returns-then-y-eq0
returns c = rw (le-ltb 0 c.args.y.0 (omega arith))

returns-2 : tie.Need-returns
returns-2 c = c.mode_at.ensures ∙ rw (lt-ltb 0 c.args.y.0 (omega arith))

pub up_mode_spec : {M : Type 1} → statement M
up_mode_spec = tie.close (tie.spec returns (λ c. search rules) (λ c κs. search rules) returns-2)
