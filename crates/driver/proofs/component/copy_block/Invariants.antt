-- `driver::component::copy_block`: the first r rows of the block have been copied.
use Rattle.std.proofs.Common.{ℕ, ◌+◌, ◌*◌, get_or}
use Rattle.laws.proofs.Whole.{Rows}
use Rattle.driver.proofs.component.copy_block.Given as goal

abbrev pub invariant-loop-r : goal.invariant-loop-r
invariant-loop-r l = Rows 0 l.n 0 0 l.n (λ (r c : ℕ). get_or l.lent ((l.y + r) * l.w + l.x + c) 0) l.fn.pred l.pred l.r
