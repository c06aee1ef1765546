-- `window::gather` meets its contract: a turn lays one line more. Assumes nothing.
use Prim.Native.Nat.{◌+◌, ◌-◌, ◌*◌, ◌≤◌, ◌<◌}
use mathlib.Core.Path.{◌≡◌, ◌∙◌}
use native.Mathlib.Omega.{arith}
use borrow.Author.Rules.{rules}
use lib.ListN.{length}
use Rattle.lanes.specs.Lanes.{halves}
use Rattle.lanes.proofs.ByLane.{halves_spread, laid_long}
use Rattle.window.specs.Lines.{Gathered}
use Rattle.window.proofs.Lanes.{line_inside, gather_none, gather_more}
use Rattle.window.proofs.gather.Statement.{statement}
use Rattle.window.proofs.gather.Tie as tie

abbrev invariant-loop : tie.invariant-loop-k
invariant-loop s first n step next at r₀ k₀ r k = (k ≤ n) × (length r ≡ 32) × Gathered halves step next at s r₀ first k r

abbrev decreases-loop : tie.decreases-loop-k
decreases-loop s first n step next at r₀ k₀ r k = n - k

-- where a turn's line lies
turn : (c : tie.In-loop-k invariant-loop decreases-loop) → let a = c.args in a.at + c.loop-k.k * a.next + 3 * a.step < length a.s.now
turn c =
    line_inside c.args.step c.args.next c.args.at c.args.n c.loop-k.k c.args.s.now c.requires.1 c.loop-k-test.true

loop_holds : tie.Need-loop-k-init invariant-loop decreases-loop
loop_holds c = (omega arith, search rules, gather_none halves halves_spread _ _ _ _ _ _)

mul_samples_at : tie.Need-overflow_mul-k invariant-loop decreases-loop
mul_samples_at c = omega (arith, turn c)

add_samples_at : tie.Need-overflow_add-at invariant-loop decreases-loop
add_samples_at c = omega (arith, turn c)

samples_at_requires : tie.Need-samples_at-q-requires invariant-loop decreases-loop
samples_at_requires c κs = turn c

loop_again : tie.Need-loop-k-preserved invariant-loop decreases-loop
loop_again c =
    let l = c.loop-k in
    let q = c.samples_at-q.result in
    (omega arith, laid_long halves l.r _ q ∙ l.invariant.1, gather_more halves halves_spread _ _ _ _ _ l.r _ l.k q (omega arith) l.invariant.1 c.samples_at-q.ensures l.invariant.2)

returns : tie.Need-returns invariant-loop decreases-loop
returns c =
    let e : c.loop-k.k ≡ c.args.n = omega arith in
    rw (← e) c.loop-k.invariant.2

pub gather_spec : {M : Type 1} → statement M
gather_spec =
    tie.close
    (tie.spec invariant-loop decreases-loop loop_holds mul_samples_at add_samples_at samples_at_requires (λ c. search rules) (λ c. search rules) (λ c. search rules) (λ c. search rules)
    (λ c. search rules) (λ c. search rules) (λ c. search rules) (λ c. search rules) (λ c. search rules) (λ c. search rules)
    (λ c. search rules) (λ c. search rules) (λ c. search rules) (λ c. search rules) (λ c. search rules) (λ c. search rules)
    (λ c. search rules) (λ c. search rules) loop_again returns)
