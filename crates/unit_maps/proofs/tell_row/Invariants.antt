-- `unit_maps::tell_row`: the first j units have been told, in each map.
use Rattle.std.proofs.Common.{ℕ}
use Rattle.laws.proofs.Planes.{Rowed}
use Rattle.unit_maps.proofs.tell_row.Given as goal

abbrev pub invariant-loop-j : goal.invariant-loop-j
invariant-loop-j l =
    Rowed 0 l.at (λ (j : ℕ). l.word) l.fn.words l.words l.j × Rowed 0 l.at (λ (j : ℕ). l.mode) l.fn.modes l.modes l.j
    × Rowed 0 l.at (λ (j : ℕ). l.mark) l.fn.keep l.keep l.j
