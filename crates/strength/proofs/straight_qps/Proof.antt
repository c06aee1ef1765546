-- `strength::straight_qps` meets its contract: a turn holds one entry more. Assumes nothing.
use Prim.Native.Nat.{ℕ, ◌+◌, ◌-◌}
use mathlib.Core.Path.{ap, ◌∙◌}
use native.Mathlib.Omega.{arith}
use borrow.Author.Rules.{rules}
use lib.IntN.{pos}
use lib.ListN.{get_or}
use mir.Syntax.{w8}
use Rattle.laws.proofs.Fill.{Upto, upto_none, upto_more, upto_all}
use Rattle.laws.proofs.Widths.{back}
use Rattle.strength.specs.ChromaQp.{held_qp}
use Rattle.strength.proofs.straight_qps.Statement.{statement}
use Rattle.strength.proofs.straight_qps.Tie as tie

abbrev invariant-loop : tie.invariant-loop-qp
invariant-loop table first qps₀ qp₀ qps qp = Upto 0 (λ (k : ℕ). held_qp (get_or table (first + k) (pos 0))) qps₀ qps qp

abbrev decreases-loop : tie.decreases-loop-qp
decreases-loop table first qps₀ qp₀ qps qp = 52 - qp

loop_holds : tie.Need-loop-qp-init invariant-loop decreases-loop
loop_holds c = upto_none 0 _ _

loop_again : tie.Need-loop-qp-preserved invariant-loop decreases-loop
loop_again c =
    let h = c.loop-qp in
    upto_more 0 _ _ _ h.qp _ (omega arith) (c.held_qp.ensures ∙ ap held_qp (back w8 _ (record { sfits = c.held_qp-arg-1.given }))) h.invariant

returns : tie.Need-returns invariant-loop decreases-loop
returns c = upto_all 0 _ _ _ c.loop-qp.qp c.loop-qp-test.false c.loop-qp.invariant

pub straight_qps_spec : {M : Type 1} → statement M
straight_qps_spec =
    tie.close
    (tie.spec invariant-loop decreases-loop loop_holds (λ c. search rules) (λ c. search rules) (λ c κs. search rules) (λ c. search rules) (λ c. search rules)
    (λ c. search rules) loop_again returns)
