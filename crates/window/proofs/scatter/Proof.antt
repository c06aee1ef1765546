-- `window::scatter` meets its contract: after k turns the plane is `put_lines` of k lines, and its length is kept. Assumes nothing.
use Prim.Native.Nat.{◌+◌, ◌-◌, ◌*◌, ◌≤◌, ◌<◌}
use mathlib.Core.Path.{◌≡◌, refl, ◌∙◌}
use native.Mathlib.Omega.{arith}
use borrow.Author.Rules.{rules}
use lib.ListN.{length}
use Rattle.lanes.specs.Lanes.{lane_of, halves}
use Rattle.df_rules.specs.Lanes.{put_lines}
use Rattle.df_rules.proofs.Lanes.{put_more}
use Rattle.window.proofs.Lanes.{line_inside}
use Rattle.window.proofs.scatter.Statement.{statement}
use Rattle.window.proofs.scatter.Tie as tie

abbrev invariant-loop : tie.invariant-loop-k
invariant-loop s₀ mask t first n step next at k₀ s k = (k ≤ n) × (length s ≡ length s₀) × (s ≡ put_lines mask (λ j. lane_of halves t (first + j)) step next at k s₀)

abbrev decreases-loop : tie.decreases-loop-k
decreases-loop s₀ mask t first n step next at k₀ s k = n - k

-- where a turn's line lies
turn : (c : tie.In-loop-k invariant-loop decreases-loop) → let a = c.args in a.at + c.loop-k.k * a.next + 3 * a.step < length a.s.now
turn c =
    line_inside c.args.step c.args.next c.args.at c.args.n c.loop-k.k c.args.s.now c.requires.1 c.loop-k-test.true

loop_holds : tie.Need-loop-k-init invariant-loop decreases-loop
unfolding put_lines
loop_holds c = (omega arith, refl, refl)

mul_put_line : tie.Need-overflow_mul-k invariant-loop decreases-loop
mul_put_line c = omega (arith, turn c.before.before)

add_put_line : tie.Need-overflow_add-at invariant-loop decreases-loop
add_put_line c = omega (arith, turn c.before.before)

put_line_requires : tie.Need-put_line-requires invariant-loop decreases-loop
put_line_requires c κs = omega (arith, turn c.before.before, c.loop-k.invariant.1)

loop_again : tie.Need-loop-k-preserved invariant-loop decreases-loop
loop_again c =
    let l = c.loop-k in
    let a = c.args in (
      omega arith,
      c.put_line.auto.s ∙ l.invariant.1,
      put_more a.mask (λ j. lane_of halves a.t.now (a.first + j)) a.step a.next a.at l.k _ a.s.now l.s _
          c.lane_of.ensures l.invariant.2 c.put_line.ensures,
    )

same_length : tie.Need-shape_of-s invariant-loop decreases-loop
same_length c = c.loop-k.invariant.1

returns : tie.Need-returns invariant-loop decreases-loop
returns c =
    let e : c.loop-k.k ≡ c.args.n = omega arith in
    rw (← e) c.loop-k.invariant.2

pub scatter_spec : {M : Type 1} → statement M
scatter_spec =
    tie.close
    (tie.spec invariant-loop decreases-loop loop_holds (λ c. search rules) (λ c κs. search rules) mul_put_line add_put_line put_line_requires (λ c. search rules) (λ c. search rules) loop_again same_length returns)
