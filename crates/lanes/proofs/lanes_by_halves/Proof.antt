-- `lanes::lanes_by_halves` meets its contract: a turn filters one lane more. Assumes nothing.
use Prim.Native.Nat.{◌-◌, ◌≤◌}
use borrow.Author.Rules.{rules}
use native.Mathlib.Omega.{arith}
use Rattle.lanes.specs.Lanes.{halves}
use Rattle.lanes.proofs.ByLane.{halves_spread, Upto, upto_none, upto_more, upto_all}
use Rattle.lanes.proofs.lanes_by_halves.Statement.{statement}
use Rattle.lanes.proofs.lanes_by_halves.Tie as tie

abbrev invariant-loop : tie.invariant-loop-k
invariant-loop st r₀ k₀ r k = (k ≤ 8) × Upto halves halves_spread r₀ st r k

abbrev decreases-loop : tie.decreases-loop-k
decreases-loop st r₀ k₀ r k = 8 - k

loop_holds : tie.Need-loop-k-init invariant-loop decreases-loop
loop_holds c = (omega arith, upto_none _ _ _ _ (search rules))

loop_again : tie.Need-loop-k-preserved invariant-loop decreases-loop
loop_again c =
    let l = c.loop-k in
    (search rules, upto_more _ _ _ _ l.r l.k c.lane_at-q.result (omega arith) c.lane_at-q.ensures l.invariant.1)

returns : tie.Need-returns invariant-loop decreases-loop
returns c = upto_all _ _ _ _ _ c.loop-k.k (omega arith) c.loop-k.invariant.1

pub lanes_by_halves_spec : {M : Type 1} → statement M
lanes_by_halves_spec =
    tie.close
    (tie.spec invariant-loop decreases-loop loop_holds (λ c. search rules) (λ c. search rules) (λ c. search rules) (λ c. search rules) (λ c. search rules) (λ c. search rules)
    (λ c. search rules) (λ c. search rules) (λ c. search rules) (λ c κs. search rules) (λ c. search rules) (λ c. search rules) (λ c. search rules) (λ c. search rules)
    (λ c. search rules) (λ c. search rules) (λ c. search rules) (λ c. search rules) (λ c. search rules) (λ c. search rules) (λ c. search rules) (λ c. search rules)
    (λ c. search rules) (λ c. search rules) (λ c. search rules) (λ c. search rules) (λ c. search rules) loop_again returns)
