-- Export and import: what follows where a picture's header and frame are written, one after the other. The proof is `again`, in proofs/.
-- Assumes nothing: these are definitions.
use Rattle.std.specs.Prelude.{ℕ, ◌+◌, List, ◌++◌, ◌≡◌, length, take}
use Rattle.y4m_header_out.specs.WriteCall as header
use Rattle.y4m_frame_out.specs.WriteCall as frame
use Rattle.y4m.specs.Import as import

-- a header and a frame of one picture, each written without a refusal
pub record Exported (i : header.Input) (j : frame.Input) : Type 0 where
  pub header_done : (header.outcome i).reading.number ≡ 0
  pub frame_done : (frame.outcome j).number ≡ 0
  pub same_w : j.w ≡ i.w
  pub same_h : j.h ≡ i.h

-- the bytes of the header that was written, those of the frame, and any others after them
abbrev pub stream : header.Input → frame.Input → List ℕ → List ℕ
stream i j rest = take (header.outcome i).reading.count (header.outcome i).out ++ ((frame.outcome j).out ++ rest)

-- import, into planes of the picture's lengths: the same planes, the same size, and F and A, and the place where the others start
pub record Again (i : header.Input) (j : frame.Input) (rest : List ℕ) (o : import.Outcome) : Type 0 where
  pub number : o.reading.number ≡ 0
  pub y : o.y ≡ j.y
  pub u : o.u ≡ j.u
  pub v : o.v ≡ j.v
  pub w : o.reading.w ≡ j.w
  pub h : o.reading.h ≡ j.h
  pub f : o.reading.f ≡ i.f
  pub g : o.reading.g ≡ i.g
  pub a : o.reading.a ≡ i.a
  pub b : o.reading.b ≡ i.b
  pub next : o.reading.next + length rest ≡ length (stream i j rest)
