-- The roots before i are filled. Assumes nothing.
use mathlib.Core.Path.{◌≡◌}
use Prim.Native.Nat.{◌*◌, ◌/◌}
use lib.ListN.{length, take}
use Rattle.marks_rules.specs.Pictures.{joined, root_map}
use Rattle.unpack.proofs.Reading.{bits, At}
use Rattle.unpack.proofs.read.fill_map.Given as goal

abbrev pub invariant-loop-i : goal.invariant-loop-i
invariant-loop-i l =
    (length l.map ≡ length l.initial.map)
    × At (l.w / 4) (l.h / 4) l.src l.from l.to l.i l.used
    × (take (1024 * l.i) l.map ≡ joined (root_map (l.w / 4) (l.h / 4) (bits (l.w / 4) (l.h / 4) l.src l.from l.to)) l.i)
    × (length l.list ≡ 85)
