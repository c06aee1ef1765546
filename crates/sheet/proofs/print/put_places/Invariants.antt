-- After i turns i places are written, of at most 10 bytes each. Assumes nothing.
use Rattle.std.proofs.Common.{◌≡◌, ◌≤◌, ◌+◌, ◌*◌, length}
use Rattle.edges.specs.Put.{Put}
use Rattle.sheet.specs.Puts.{places_text}
use Rattle.sheet.proofs.print.put_places.Given as goal

abbrev pub invariant-loop-i : goal.invariant-loop-i
invariant-loop-i l =
    (length l.out ≡ length l.fn.out) × (l.next ≤ l.at + 10 * l.i) × Put (places_text l.letter l.numbers l.i) l.fn.out l.at l.out l.next
