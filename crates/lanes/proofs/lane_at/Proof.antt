-- `lanes::lane_at` meets its contract: the four samples, each held. Assumes nothing.
use mathlib.Core.Path.{◌∙◌}
use borrow.Author.Rules.{rules}
use Rattle.line.specs.Line.{line_of}
use Rattle.lanes.proofs.lane_at.Statement.{statement}
use Rattle.lanes.proofs.lane_at.Tie as tie

returns : tie.Need-returns
returns c =
    c.lane.ensures
    ∙ (λ i. line_of (c.held.ensures.0 i) (c.held-2.ensures.0 i)
    (c.held-3.ensures.0 i) (c.held-4.ensures.0 i) c.args.st)

pub lane_at_spec : {M : Type 1} → statement M
lane_at_spec =
    tie.close
    (tie.spec (λ c. search rules) (λ c. search rules) (λ c κs. search rules) (λ c. search rules) (λ c. search rules) (λ c κs. search rules)
    (λ c. search rules) (λ c. search rules) (λ c κs. search rules) (λ c. search rules) (λ c. search rules) (λ c κs. search rules)
    (λ c κs. search rules) returns)
