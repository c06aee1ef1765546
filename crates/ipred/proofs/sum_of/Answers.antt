-- `ipred::sum_of`: a turn adds one sample more.
use Rattle.std.proofs.Common.{arith, ◌≡◌, ◌+◌, ◌∙◌, sym}
use Rattle.ipred.proofs.Sums.{sum_none, sum_more}
use Rattle.ipred.proofs.sum_of.Goals as goal

pub loop-j-init : goal.loop-j-init
loop-j-init c = (sym (sum_none _), omega arith)

pub loop-j-preserved : goal.loop-j-preserved
loop-j-preserved c =
    let h = c.loop-j in
    (rw h.invariant.0 (sym (sum_more _ _)), omega (arith, c.type_inv.run (c.args.from + h.j)))

pub returns : goal.returns
returns c =
    let h = c.loop-j in
    let e : h.j ≡ c.args.n = omega arith in
    (h.invariant.0 ∙ rw e, omega arith)
