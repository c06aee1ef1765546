-- `replay::each_by` ends: each case starts past the one before.
use Rattle.std.proofs.Common.{length, ◌-◌}
use Rattle.replay.proofs.each_by.Given as goal

abbrev pub decreases-loop-at : goal.decreases-loop-at
decreases-loop-at g l = length l.text - l.at
