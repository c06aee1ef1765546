-- `nbr::join_samples`: a turn joins one sample more.
use Rattle.std.proofs.Common.{arith, ◌≡◌, ℕ, ◌+◌, ◌*◌, ◌∙◌, sym, get_or}
use Rattle.laws.proofs.ScanAll.{scan_step}
use Rattle.samples.proofs.Samples.{joined}
use Rattle.nbr.proofs.Joins.{join_none}
use Rattle.nbr.proofs.join_samples.Goals as goal

pub loop-j-init : goal.loop-j-init
loop-j-init c = join_none (λ (j : ℕ). get_or c.args.plane.now (c.args.from + j * c.args.step) 0)

pub loop-j-preserved : goal.loop-j-preserved
loop-j-preserved c = joined c.loop-j.all _ ∙ rw c.loop-j.invariant (sym (scan_step _ c.loop-j.j))

pub returns : goal.returns
returns c = let e : c.loop-j.j ≡ c.args.n = omega arith in c.loop-j.invariant ∙ rw e
