-- After i turns the bytes of the first i samples are there. Assumes nothing.
use Rattle.std.proofs.Common.{◌≡◌, ◌+◌, ◌*◌, length, take}
use Rattle.edges.specs.Put.{Put}
use Rattle.y4m_rules.specs.Frames.{bytes_of}
use Rattle.y4m_frame_out.proofs.bytes.put_plane.Given as goal

abbrev pub invariant-loop-i : goal.invariant-loop-i
invariant-loop-i l = (length l.out ≡ length l.fn.out) × Put (bytes_of (take l.i l.plane)) l.fn.out l.at l.out (l.at + 2 * l.i)
