-- `unit_maps::clear_words`: the words before this one have been cleared.
use Rattle.std.proofs.Common.{ℕ}
use Rattle.laws.proofs.Fill.{Upto}
use Rattle.unit_maps.proofs.clear_words.Given as goal

abbrev pub invariant-loop-word : goal.invariant-loop-word
invariant-loop-word l = Upto 0 (λ (j : ℕ). 0) l.fn.words l.words l.word-index
