-- `strength::clipped_qps` meets its contract: a turn maps one QP more. Assumes nothing.
use Prim.Native.Nat.{◌-◌}
use mathlib.Core.Path.{ap, ◌∙◌}
use native.Mathlib.Omega.{arith}
use borrow.Author.Rules.{rules}
use mir.Syntax.{w8}
use mir.Val.{to_z}
use Rattle.laws.proofs.Fill.{Upto, upto_none, upto_more, upto_all}
use Rattle.laws.proofs.Widths.{back}
use Rattle.strength.specs.ChromaQp.{mapped, mapped_qps}
use Rattle.strength.proofs.clipped_qps.Statement.{statement}
use Rattle.strength.proofs.clipped_qps.Tie as tie

abbrev invariant-loop : tie.invariant-loop-qp
invariant-loop table offset qps₀ qp₀ qps qp = Upto 0 (mapped table (to_z w8 offset)) qps₀ qps qp

abbrev decreases-loop : tie.decreases-loop-qp
decreases-loop table offset qps₀ qp₀ qps qp = 52 - qp

loop_holds : tie.Need-loop-qp-init invariant-loop decreases-loop
loop_holds c = upto_none 0 _ _

loop_again : tie.Need-loop-qp-preserved invariant-loop decreases-loop
loop_again c =
    let h = c.loop-qp in
    upto_more 0 _ _ _ h.qp _ (omega arith) c.mapped.ensures h.invariant

returns : tie.Need-returns invariant-loop decreases-loop
returns c =
    upto_all 0 _ _ _ c.loop-qp.qp c.loop-qp-test.false c.loop-qp.invariant
    ∙ ap (mapped_qps c.args.table.now) (back w8 _ c.ranges.offset)

pub clipped_qps_spec : {M : Type 1} → statement M
clipped_qps_spec =
    tie.close
    (tie.spec invariant-loop decreases-loop loop_holds (λ c. search rules) (λ c κs. search rules) (λ c. search rules) (λ c. search rules) (λ c. search rules) loop_again returns)
