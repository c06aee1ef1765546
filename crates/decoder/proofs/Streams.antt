-- The calls of YUV4MPEG2 streams: of each NAME-once and NAME-refusals, as in `Promises`; and an input that each accepts.
-- The answers are told apart by `read_apart` (y4m_header), `written_apart` (y4m_header_out) and `frame_apart` (y4m_frame).
-- Assumes nothing.
use Rattle.std.specs.Prelude.{Result, Ok, Err}
use Prim.Native.Nat.{ℕ}
use mathlib.Core.Path.{◌≡◌, refl, sym, subst}
use mathlib.Core.Bool.{Bool, true, false}
use mathlib.Core.List.{List, [], ◌∷◌, ◌++◌}
use mathlib.Core.Logic.{inl, inr}
use lib.Dec.{leb, eqb}
use lib.ListN.{length, replicate, take}
use Rattle.laws.specs.Call.{unless}
use Rattle.laws.specs.Scan.{all_below}
use Rattle.laws.specs.Index.{tabulate_from}
use Rattle.def.specs.Picture.{size_ok, luma_length, chroma_length}
use Rattle.def.specs.Refusals.{number_of}
use Rattle.def.specs.declared.Format.TheVariants.{Grey, Colour}
use Rattle.def.specs.declared.Refusal.{Refusal}
use Rattle.def.specs.declared.Refusal.TheVariants.{Size, Length, Setting, Sample, Stream, Short}
use Rattle.def.proofs.Answers.{answer_apart}
use Rattle.samples.specs.Samples.{samples_ok}
use Rattle.sheet_lines.specs.Lines.{starts_with, same_line, value_from}
use Rattle.sheet.specs.Text.{decimal_by}
use Rattle.y4m_rules.specs.Words.{frame_line, before}
use Rattle.y4m_rules.specs.Numbers.{is_number}
use Rattle.y4m_rules.specs.Frames.{colour_ok, bytes_of, frame_text, frame_end, matches, line_ok, line_place, planes_ok}
use Rattle.y4m_rules.specs.Header.{Header, malformed, said, header_text, header_in, words, ending, value_ok, said_with}
use Rattle.y4m_rules.specs.Misreads.{misread}
use Rattle.y4m_rules.specs.declared.Misread.{Misread}
use Rattle.y4m_header.specs.ReadCall as header
use Rattle.y4m_header.specs.Values as values
use Rattle.y4m_header.specs.declared.Header.{Header as Heading}
use Rattle.y4m_header.proofs.Answers.{read_apart}
use Rattle.y4m_header_out.specs.WriteCall as header-out
use Rattle.y4m_header_out.proofs.Answers.{written_apart}
use Rattle.y4m_frame.specs.ReadCall as frame
use Rattle.y4m_frame.proofs.Answers.{frame_apart}
use Rattle.y4m_frame_out.specs.WriteCall as frame-out
use Rattle.y4m.specs.Import as import
use Rattle.decoder.specs.Promise.{ended, Sole, OneOf, Refuses}
use Rattle.decoder.proofs.Settled.{told, settled}
use Rattle.decoder.proofs.Refusing.{last, rung, by_checks, zeroth}
use Rattle.decoder.proofs.read_header.Kinds as read-header-kinds
use Rattle.decoder.proofs.read_header.Reads as read-header-reads
use Rattle.decoder.proofs.write_header.Kinds as write-header-kinds
use Rattle.decoder.proofs.write_header.Reads as write-header-reads
use Rattle.decoder.proofs.read_frame.Kinds as read-frame-kinds
use Rattle.decoder.proofs.read_frame.Reads as read-frame-reads
use Rattle.decoder.proofs.write_frame.Kinds as write-frame-kinds
use Rattle.decoder.proofs.write_frame.Reads as write-frame-reads
use Rattle.decoder.proofs.import_frame.Kinds as import-frame-kinds
use Rattle.decoder.proofs.import_frame.Reads as import-frame-reads

-- ---- the header

pub read_header_once : Sole 1 read-header-kinds.ps read-header-kinds.r read-header-reads.Post (λ κs r x. r)
read_header_once κs a r r' x x' p q = told header.outcome (λ o. o.reading) p q (read_apart r r')

-- YUV4MPEG2 W1 H1 C420p10; and the same of 4 by 4
abbrev header_of : ℕ → List ℕ
header_of digit =
    89 ∷ 85 ∷ 86 ∷ 52 ∷ 77 ∷ 80 ∷ 69 ∷ 71 ∷ 50 ∷ 32 ∷ 87 ∷ digit ∷ 32 ∷ 72 ∷ digit ∷ 32 ∷ 67 ∷ 52 ∷ 50 ∷ 48 ∷ 112 ∷ 49 ∷ 48 ∷ 10 ∷ []

-- of a size that is not taken
abbrev one_by_one : List ℕ
one_by_one = header_of 49

abbrev four_by_four : List ℕ
four_by_four = header_of 52

by_size : (t : Bool) (r : Result Heading Misread) → (header.reading_of r).number ≡ 0 → OneOf (Size ∷ []) (header.reading_of (unless t (Err (misread Size 0)) r)).number
by_size true r e = inr e
by_size false r e = inl refl

by_header : (k : Header) → OneOf (Stream ∷ Size ∷ []) (header.reading_of (header.read_by k)).number
by_header (malformed at) = inl refl
by_header (said p n) = let h = values.header_of p n in inr (by_size (size_ok h.w h.h) (Ok h) refl)

pub read_header_refusals : Refuses header.outcome (λ o. o.reading.number) (Stream ∷ Size ∷ [])
unfolding header.outcome header_in words ending value_ok said_with before is_number value_from same_line starts_with all_below size_ok
read_header_refusals =
    record { only = λ i. by_header (header_in i.input); shown = record { input = take 23 one_by_one } ∷ record { input = one_by_one } ∷ []; given = refl }

pub write_header_once : Sole 1 write-header-kinds.ps write-header-kinds.r write-header-reads.Post (λ κs r x. ended r (x.1.1.1.1.1.1.1.0.now ∷ []))
write_header_once κs a r r' x x' p q = settled header-out.outcome (λ o. o.reading) (λ o. o.out ∷ []) p q (written_apart r r')

-- a picture as wide and as high, with one rate
abbrev heading : ℕ → ℕ → List ℕ → header-out.Input
heading side rate out = record { format = Colour; w = side; h = side; f = rate; g = 1; a = 1; b = 1; out = out }

pub write_header_refusals : Refuses header-out.outcome (λ o. o.reading.number) (Size ∷ Length ∷ Setting ∷ [])
unfolding header-out.outcome header-out.numbers_ok size_ok
write_header_refusals =
    record {
      only = λ i.
          by_checks (λ o. o.reading.number) (header-out.refused i) (header-out.done i) (Size ∷ Length ∷ Setting ∷ []) (header-out.check i) (λ r. refl) refl
          (rung (size_ok i.w i.h) Size _
          (rung (eqb (length i.out) 256) Length _
          (rung (header-out.numbers_ok i.format i.f i.g i.a i.b) Setting _ last)));
      shown = heading 0 0 [] ∷ heading 4 0 [] ∷ heading 4 0 (replicate 256 0) ∷ [];
      given = refl;
    }

-- ---- a frame

-- an answer of reading a frame is one of some refusals, or the place after it
record Framed (rs : List Refusal) (k : Result ℕ Misread) : Type 0 where
  by : OneOf rs (frame.reading_of k).number

frame_last : (n : ℕ) → Framed [] (Ok n)
frame_last n = record { by = refl }

frame_rung : {rs : List Refusal} (t : Bool) (r : Refusal) (p : ℕ) (k : Result ℕ Misread) → Framed rs k → Framed (r ∷ rs) (unless t (Err (misread r p)) k)
frame_rung true r p k f = record { by = inr f.by }
frame_rung false r p k f = record { by = inl refl }

abbrev by_frame : List Refusal
by_frame = Size ∷ Length ∷ Stream ∷ Short ∷ Sample ∷ []

frame_stops : (i : frame.Input) → Framed by_frame (frame.check i)
unfolding frame.check_of frame.frame_of
frame_stops i =
    let luma = luma_length i.w i.h in
    let chroma = chroma_length i.w i.h in
    frame_rung (size_ok i.w i.h) Size 0 _
    (frame_rung (frame.lengths_ok i.w i.h (length i.y) (length i.u) (length i.v)) Length 0 _
    (frame_rung (line_ok i.input i.at) Stream (line_place i.input i.at) _
    (frame_rung (leb (frame_end i.at luma chroma) (length i.input)) Short 0 _
    (frame_rung (planes_ok i.input i.at luma chroma) Sample 0 _
    (frame_last (frame_end i.at luma chroma))))))

-- what it leaves has that number
after_number : (i : frame.Input) (k : Result ℕ Misread) → (frame.reading_of k).number ≡ (frame.after i k).reading.number
after_number i (Ok n) = refl
after_number i (Err m) = refl

pub read_frame_once : Sole 4 read-frame-kinds.ps read-frame-kinds.r read-frame-reads.Post (λ κs r x. ended r (x.1.1.1.1.0.now ∷ x.1.1.1.1.1.0.now ∷ x.1.1.1.1.1.1.0.now ∷ []))
read_frame_once κs a r r' x x' p q = settled frame.outcome (λ o. o.reading) (λ o. o.y ∷ o.u ∷ o.v ∷ []) p q (frame_apart r r')

-- a picture of 4 by 4 in a stream, and planes for it; its bytes, all alike
abbrev framing : ℕ → List ℕ → List ℕ → frame.Input
framing side s y = record { input = s; at = 0; w = side; h = side; y = y; u = replicate 4 0; v = replicate 4 0 }

abbrev bytes_of_lem : ℕ → List ℕ
bytes_of_lem b = frame_line ++ replicate 48 b

-- a byte too few, each sample over 1023; and no frame line either
abbrev short : List ℕ
short = frame_line ++ replicate 47 255

abbrev broken : List ℕ
broken = replicate 53 255

pub read_frame_refusals : Refuses frame.outcome (λ o. o.reading.number) by_frame
unfolding frame.outcome frame.check_of frame.lengths_ok frame.frame_of matches line_place planes_ok samples_ok all_below size_ok tabulate_from
read_frame_refusals =
    record {
      only = λ i. subst (OneOf by_frame) (after_number i (frame.check i)) (frame_stops i).by;
      shown =
          framing 5 broken []
          ∷ framing 4 broken []
          ∷ framing 4 broken (replicate 16 0)
          ∷ framing 4 short (replicate 16 0)
          ∷ framing 4 (bytes_of_lem 4) (replicate 16 0)
          ∷ [];
      given = refl;
    }

pub write_frame_once : Sole 4 write-frame-kinds.ps write-frame-kinds.r write-frame-reads.Post (λ κs r x. ended r (x.1.1.1.1.1.1.0.now ∷ []))
write_frame_once κs a r r' x x' p q = settled frame-out.outcome (λ o. o.number) (λ o. o.out ∷ []) p q (answer_apart r r')

-- luma samples all alike; a grey picture of 4 by 4 has planes of no chroma
abbrev drawing : ℕ → List ℕ → frame-out.Input
drawing sample out = record { format = Colour; w = 4; h = 4; y = replicate 16 sample; u = replicate 4 0; v = replicate 4 0; out = out }

abbrev grey : ℕ → List ℕ → frame-out.Input
grey side out = record { format = Grey; w = side; h = side; y = replicate 16 1024; u = []; v = []; out = out }

pub write_frame_refusals : Refuses frame-out.outcome (λ o. o.number) (Size ∷ Length ∷ Setting ∷ Sample ∷ [])
unfolding frame-out.outcome frame-out.check_of frame-out.lengths_ok frame-out.planes_ok samples_ok all_below size_ok
write_frame_refusals =
    record {
      only = λ i.
          by_checks (λ o. o.number) (frame-out.refused i) (frame-out.done i) (Size ∷ Length ∷ Setting ∷ Sample ∷ []) (frame-out.check i) (λ r. refl) refl
          (rung (size_ok i.w i.h) Size _
          (rung (frame-out.lengths_ok i.format i.w i.h (length i.y) (length i.u) (length i.v) (length i.out)) Length _
          (rung (colour_ok i.format) Setting _
          (rung (frame-out.planes_ok i.y i.u i.v) Sample _ last))));
      shown = grey 5 [] ∷ grey 4 [] ∷ grey 4 (replicate 38 0) ∷ drawing 1024 (replicate 54 0) ∷ [];
      given = refl;
    }

-- ---- the first frame

pub import_frame_once : Sole 4 import-frame-kinds.ps import-frame-kinds.r import-frame-reads.Post (λ κs r x. ended r (x.1.0.now ∷ x.1.1.0.now ∷ x.1.1.1.0.now ∷ []))
import_frame_once κs a r r' x x' p q = settled import.outcome (λ o. o.reading) (λ o. o.y ∷ o.u ∷ o.v ∷ []) p q (read_apart r r')

abbrev by_import : List Refusal
by_import = Stream ∷ by_frame

after_frame_lem : (i : import.Input) (h : Heading) (k : Result ℕ Misread) → OneOf by_frame (frame.reading_of k).number → OneOf by_import (import.after_frame i h k).reading.number
after_frame_lem i h (Ok n) p = inr p
after_frame_lem i h (Err m) p = inr p

-- the header's are the first two
after_header_lem : (i : import.Input) (k : Result Heading Misread) → OneOf (Stream ∷ Size ∷ []) (header.reading_of k).number → OneOf by_import (import.after_header i k).reading.number
after_header_lem i (Err m) (inl e) = inl e
after_header_lem i (Err m) (inr (inl e)) = inr (inl e)
after_header_lem i (Err m) (inr (inr e)) = subst (OneOf by_import) (sym e) (zeroth by_import)
after_header_lem i (Ok h) p = after_frame_lem i h (frame.check (import.frame_at i h.next h.w h.h)) (frame_stops (import.frame_at i h.next h.w h.h)).by

abbrev importing : List ℕ → List ℕ → import.Input
importing s y = record { input = s; y = y; u = replicate 4 0; v = replicate 4 0 }

pub import_frame_refusals : Refuses import.outcome (λ o. o.reading.number) by_import
unfolding import.outcome header_in words ending value_ok said_with before is_number value_from same_line starts_with frame.check_of frame.lengths_ok frame.frame_of
    matches line_place planes_ok samples_ok all_below size_ok tabulate_from
import_frame_refusals =
    record {
      only = λ i. after_header_lem i (header.read_of i.input) (by_header (header_in i.input));
      shown =
          importing (take 23 one_by_one ++ broken) []
          ∷ importing (one_by_one ++ broken) []
          ∷ importing (four_by_four ++ broken) []
          ∷ importing (four_by_four ++ broken) (replicate 16 0)
          ∷ importing (four_by_four ++ short) (replicate 16 0)
          ∷ importing (four_by_four ++ bytes_of_lem 4) (replicate 16 0)
          ∷ [];
      given = refl;
    }

-- ---- none of them refuses always

pub accepted :
    (header.outcome (record { input = four_by_four })).reading.number
    ∷ (header-out.outcome (heading 4 1 (replicate 256 0))).reading.number
    ∷ (frame.outcome (framing 4 (bytes_of_lem 3) (replicate 16 0))).reading.number
    ∷ (frame-out.outcome (drawing 1023 (replicate 54 0))).number
    ∷ (import.outcome (importing (four_by_four ++ bytes_of_lem 3) (replicate 16 0))).reading.number
    ∷ []
    ≡ replicate 5 0
unfolding header.outcome header-out.outcome header-out.numbers_ok frame-out.outcome frame-out.check_of frame-out.lengths_ok frame-out.planes_ok import.outcome header_in
    words ending value_ok said_with before is_number value_from same_line starts_with frame.outcome frame.check_of frame.lengths_ok frame.frame_of matches
    line_place planes_ok samples_ok all_below size_ok tabulate_from
accepted = refl
