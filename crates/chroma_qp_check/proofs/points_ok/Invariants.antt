-- `chroma_qp_check::points_ok`: none of the first j a is below 0.
use Rattle.std.proofs.Common.{◌≡◌, ℕ, pos, get_or, true}
use lib.Signed.{le_z}
use Rattle.laws.specs.Scan.{all_below}
use Rattle.chroma_qp_check.proofs.points_ok.Given as goal

abbrev pub invariant-loop-j : goal.invariant-loop-j
invariant-loop-j l = all_below (λ (k : ℕ). le_z (pos 0) (get_or l.a k (pos 0))) l.j ≡ true
