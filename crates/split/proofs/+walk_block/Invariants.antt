-- The walk calls itself on blocks of half the side, which is the measure. The loop keeps that the parts so far are stored. Assumes nothing.
use mathlib.Core.Path.{◌≡◌}
use lib.ListN.{length}
use Rattle.split.proofs.Blocks.{Cut}
use Rattle.split.proofs.Parts.{Turned}
use Rattle.split.proofs.+walk_block.Given as goal

abbrev pub decreases-walk_block : goal.decreases-walk_block
decreases-walk_block l = l.side

abbrev pub invariant-loop-part : goal.invariant-loop-part
invariant-loop-part l =
    (length l.out ≡ length l.initial.out)
    × Cut l.bytes l.w l.h l.at.x.0 l.at.y.0 l.side l.level l.half
    × Turned l.bytes l.w l.h l.at.x.0 l.at.y.0 l.level l.initial.out l.n l.out l.part l.count
