-- `chroma_qp::fill_between`: one entry, or a turn puts one entry more.
use Rattle.std.proofs.Common.{arith, refl, sym, ap, ◌∙◌, ℕ, ◌+◌}
use Rattle.laws.proofs.Planes.{rowed_none, rowed_all}
use Rattle.chroma_qp.specs.Held.{held_between}
use Rattle.chroma_qp.proofs.Filled.{row_more}
use Rattle.chroma_qp.proofs.Parts.{entry_most, held_step}
use Rattle.chroma_qp.proofs.fill_between.Goals as goal

pub returns-then-n-eq1 : goal.returns-then-n-eq1
returns-then-n-eq1 c =
    let a = c.args in
    let one = c.if-n-eq1.true in
    rowed_all _ _ _ _ _ _ 1 (sym one)
    (row_more _ _ _ _ _ 0 _ _ (omega arith) (omega arith) c.put.ensures
    (held_step a.v a.from a.to (omega arith) ∙ ap (λ (n : ℕ). held_between a.v a.from a.to n (0 + 1)) (sym one)) (rowed_none _ _ _ _))

pub loop-m-init : goal.loop-m-init
loop-m-init c = rowed_none _ _ _ _

pub put-requires-in-loop-m : goal.put-requires-in-loop-m
put-requires-in-loop-m c = (
  omega (arith, c.loop-m.invariant.long),
  rw c.between.ensures
      (entry_most c.args.qp_in _ _ _ _ (omega arith) (omega arith) (omega arith) _ (omega arith) (omega arith) (omega arith) (omega arith)),
)

pub loop-m-preserved : goal.loop-m-preserved
loop-m-preserved c =
    row_more _ _ _ _ _ c.loop-m.m _ _ (omega arith) refl c.put-in-loop-m.ensures c.between.ensures c.loop-m.invariant

pub returns : goal.returns
returns c = rowed_all _ _ _ _ _ _ c.loop-m.m (omega arith) c.loop-m.invariant
