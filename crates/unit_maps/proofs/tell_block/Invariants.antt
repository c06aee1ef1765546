-- `unit_maps::tell_block`: the first r rows of the block have been told, in each map.
use Rattle.std.proofs.Common.{ℕ}
use Rattle.laws.proofs.Whole.{Rows}
use Rattle.unit_maps.proofs.tell_block.Given as goal

abbrev pub invariant-loop-r : goal.invariant-loop-r
invariant-loop-r l =
    Rows 0 l.columns l.x l.y l.n (λ (r c : ℕ). l.word) l.fn.words l.words l.r × Rows 0 l.columns l.x l.y l.n (λ (r c : ℕ). l.mode) l.fn.modes l.modes l.r
    × Rows 0 l.columns l.x l.y l.n (λ (r c : ℕ). l.mark) l.fn.keep l.keep l.r
