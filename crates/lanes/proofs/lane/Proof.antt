-- `lanes::lane` meets its contract: its calls are the steps of `line_steps`. Assumes nothing.
use borrow.Author.Rules.{rules}
use native.Mathlib.Omega.{arith}
use Rattle.lanes.proofs.Unsigned.{line_steps}
use Rattle.lanes.proofs.lane.Statement.{statement}
use Rattle.lanes.proofs.lane.Tie as tie

returns : tie.Need-returns
returns c =
    line_steps c.args.a c.args.b c.args.c c.args.d c.args.st _ _ _ _ _ _ c.requires.0 c.requires.1 c.requires.2 c.requires.3
    c.rise-u.ensures.0 c.rise-v.ensures.0
    c.ease-e.ensures.0 c.ease-f.ensures.0 c.nudge.ensures c.nudge-2.ensures

pub lane_spec : {M : Type 1} → statement M
lane_spec =
    tie.close
    (tie.spec (λ c κs. search rules) (λ c κs. search rules) (λ c. search rules) (λ c κs. search rules) (λ c κs. search rules) (λ c. omega arith)
    (λ c. omega arith) (λ c κs. search rules) (λ c κs. search rules) (λ c. omega arith) (λ c. omega arith) returns)
