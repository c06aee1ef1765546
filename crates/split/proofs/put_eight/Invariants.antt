-- The loop over a block's four units: the units so far are stored. Assumes nothing.
use mathlib.Core.Path.{◌≡◌}
use lib.ListN.{length}
use Rattle.split.proofs.Blocks.{Cut}
use Rattle.split.proofs.Parts.{Turned}
use Rattle.split.proofs.put_eight.Given as goal

abbrev pub invariant-loop-part : goal.invariant-loop-part
invariant-loop-part l =
    (length l.out ≡ length l.initial.out)
    × Cut l.bytes l.w l.h l.at.x.0 l.at.y.0 8 3 4
    × Turned l.bytes l.w l.h l.at.x.0 l.at.y.0 3 l.initial.out l.n l.out l.part l.count
