-- `driver::component::lay_rows`: the first r rows of the block have been laid.
use Rattle.std.proofs.Common.{ℕ, ◌+◌, ◌*◌, get_or}
use Rattle.laws.proofs.Whole.{Rows}
use Rattle.driver.proofs.component.lay_rows.Given as goal

abbrev pub invariant-loop-r : goal.invariant-loop-r
invariant-loop-r l = Rows 0 l.w l.x l.y l.n (λ (r c : ℕ). get_or l.pred (r * l.n + c) 0) l.fn.plane l.plane l.r
