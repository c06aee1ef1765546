-- Export of an accepted picture followed by import gives the same planes and size.
--     frame_again    the frame
--     header_again   the header
--     again          both
-- Assumes nothing.
use Rattle.std.specs.Prelude.{Ok, Err}
use mathlib.Core.Bool.{true}
use mathlib.Core.List.{List, [], ◌∷◌, ◌++◌, append_assoc}
use mathlib.Core.Path.{◌≡◌, refl, sym, ap, ◌∙◌, subst}
use Prim.Native.Nat.{ℕ, ◌+◌, ◌≤◌}
use native.Mathlib.Omega.{arith}
use borrow.Author.Tests.{eqb-true, eq-eqb, le-leb}
use lib.Dec.{eqb}
use lib.ListN.{length, take, drop, length-append}
use lib.Seq.{sets, sets-eq, take-append_seam}
use Rattle.laws.proofs.Calls.{all_at}
use Rattle.def.specs.Answers.{after_checks}
use Rattle.def.specs.Formats.{colour_length}
use Rattle.def.specs.Picture.{size_ok, luma_length, chroma_length}
use Rattle.def.specs.Answers.{Answer}
use Rattle.def.specs.declared.Format.{Format}
use Rattle.def.specs.declared.Format.TheVariants.{Grey, Colour}
use Rattle.def.proofs.Answers.{number_some}
use Rattle.def.proofs.Ladders.{passes}
use Rattle.samples.specs.Samples.{samples_ok}
use Rattle.y4m_rules.specs.Words.{frame_line}
use Rattle.y4m_rules.specs.Frames.{colour_ok, frame_length, bytes_of, frame_text, line_ok, frame_end, y_at, u_at, v_at, planes_ok}
use Rattle.y4m_rules.proofs.Frames.{bytes_long, plane_back_lem, line_back}
use Rattle.y4m_rules.proofs.Header.{header_back, header_short}
use Rattle.y4m_header.specs.ReadCall as reading
use Rattle.y4m_header.specs.declared.Header.{Header}
use Rattle.y4m_header_out.specs.WriteCall as header
use Rattle.y4m_header_out.proofs.Answers.{writable}
use Rattle.y4m_frame.specs.ReadCall as framed
use Rattle.y4m_frame_out.specs.WriteCall as frame
use Rattle.y4m.specs.Import as import
use Rattle.y4m.specs.Again.{Exported, stream, Again}

-- ---- a frame after some bytes, and before others

module _ (text y u v rest : List ℕ) (w h : ℕ) (yl : length y ≡ luma_length w h) (ul : length u ≡ chroma_length w h) (vl : length v ≡ chroma_length w h) where
  abbrev bytes : List ℕ
  bytes = text ++ (frame_text y u v ++ rest)

  abbrev at : ℕ
  at = length text

  abbrev luma : ℕ
  luma = luma_length w h

  abbrev chroma : ℕ
  chroma = chroma_length w h

  -- the bytes by the plane that starts somewhere
  from_line : bytes ≡ text ++ (frame_line ++ (bytes_of y ++ (bytes_of u ++ (bytes_of v ++ rest))))
  unfolding frame_text
  from_line = simp append_assoc

  from_y : bytes ≡ (text ++ frame_line) ++ (bytes_of y ++ (bytes_of u ++ (bytes_of v ++ rest)))
  unfolding frame_text
  from_y = simp append_assoc

  from_u : bytes ≡ (text ++ (frame_line ++ bytes_of y)) ++ (bytes_of u ++ (bytes_of v ++ rest))
  unfolding frame_text
  from_u = simp append_assoc

  from_v : bytes ≡ (text ++ (frame_line ++ (bytes_of y ++ bytes_of u))) ++ (bytes_of v ++ rest)
  unfolding frame_text
  from_v = simp append_assoc

  y_back : y_at bytes at luma ≡ y
  y_back = rw from_y (plane_back_lem (text ++ frame_line) y _ (at + 6) luma (sym (length-append text frame_line)) (sym yl))

  u_back : u_at bytes at luma chroma ≡ u
  u_back =
      rw from_u
      (plane_back_lem (text ++ (frame_line ++ bytes_of y)) u _ _ chroma (omega (arith, length-append text (frame_line ++ bytes_of y), bytes_long y)) (sym ul))

  v_back : v_at bytes at luma chroma ≡ v
  v_back =
      rw from_v
      (plane_back_lem (text ++ (frame_line ++ (bytes_of y ++ bytes_of u))) v rest _ chroma
      (omega (arith, length-append text (frame_line ++ (bytes_of y ++ bytes_of u)), length-append (bytes_of y) (bytes_of u), bytes_long y, bytes_long u)) (sym vl))

  end_is : frame_end at luma chroma + length rest ≡ length bytes
  unfolding frame_text
  end_is = simp length-append (omega (arith, bytes_long y, bytes_long u, bytes_long v))

  module _ (oy : samples_ok y ≡ true) (ou : samples_ok u ≡ true) (ov : samples_ok v ≡ true) where
    planes : planes_ok bytes at luma chroma ≡ true
    unfolding planes_ok
    planes = rw (ap samples_ok y_back ∙ oy, ap samples_ok u_back ∙ ou, ap samples_ok v_back ∙ ov)

    frame_again : framed.frame_of bytes at luma chroma ≡ Ok (frame_end at luma chroma)
    unfolding framed.frame_of
    frame_again =
        let l : line_ok bytes at ≡ true = ap (λ (s : List ℕ). line_ok s at) from_line ∙ line_back text _ at refl in
        rw (l, le-leb (frame_end at luma chroma) (length bytes) (omega (arith, end_is)), planes)

-- ---- what was written without a refusal

header_checked : (i : header.Input) → (header.outcome i).reading.number ≡ 0 → header.check i ≡ Ok tt
unfolding header.outcome
header_checked i e = go (header.check i) e where
  go : (k : Answer) → (after_checks (header.refused i) (header.done i) k).reading.number ≡ 0 → k ≡ Ok tt
  go (Ok _) z = refl
  go (Err r) z = absurd (omega (arith, number_some r))

frame_checked : (j : frame.Input) → (frame.outcome j).number ≡ 0 → frame.check j ≡ Ok tt
unfolding frame.outcome
frame_checked j e = go (frame.check j) e where
  go : (k : Answer) → (after_checks (frame.refused j) (frame.done j) k).number ≡ 0 → k ≡ Ok tt
  go (Ok _) z = refl
  go (Err r) z = absurd (omega (arith, number_some r))

-- the picture of an accepted frame
record Picture (w h : ℕ) (y u v : List ℕ) : Type 0 where
  sized : size_ok w h ≡ true
  y_long : length y ≡ luma_length w h
  u_long : length u ≡ chroma_length w h
  v_long : length v ≡ chroma_length w h
  y_good : samples_ok y ≡ true
  u_good : samples_ok u ≡ true
  v_good : samples_ok v ≡ true

colour : (c : Format) → colour_ok c ≡ true → c ≡ Colour
colour Grey e = absurd (let z : ◌≡◌ {A = ℕ} 0 1 = cc in omega arith)
colour Colour e = refl

picture : (c : Format) (w h : ℕ) (y u v : List ℕ) (n : ℕ) → frame.check_of c w h y u v n ≡ Ok tt → Picture w h y u v
unfolding frame.check_of frame.lengths_ok frame.planes_ok
picture c w h y u v n e =
    let first = passes (size_ok w h) _ _ e in
    let lengths = eqb (length y) (luma_length w h) ∷ eqb (length u) (colour_length c w h) ∷ eqb (length v) (colour_length c w h) ∷ eqb n (frame_length c w h) ∷ [] in
    let second = passes _ _ _ first.rest in
    let third = passes (colour_ok c) _ _ second.rest in
    let samples = samples_ok y ∷ samples_ok u ∷ samples_ok v ∷ [] in
    let fourth = passes _ _ _ third.rest in
    let q : colour_length c w h ≡ chroma_length w h = ap (λ (d : Format). colour_length d w h) (colour c third.holds) in
    record {
      sized = first.holds;
      y_long = eqb-true (length y) (luma_length w h) (all_at lengths 0 second.holds);
      u_long = eqb-true (length u) (colour_length c w h) (all_at lengths 1 second.holds) ∙ q;
      v_long = eqb-true (length v) (colour_length c w h) (all_at lengths 2 second.holds) ∙ q;
      y_good = all_at samples 0 fourth.holds;
      u_good = all_at samples 1 fourth.holds;
      v_good = all_at samples 2 fourth.holds;
    }

-- the bytes that were written to a buffer's start
written_text : (text out : List ℕ) → length text ≤ length out → take (length text) (sets out 0 text) ≡ text
written_text text out h = ap (take (length text)) (sets-eq text out 0 (omega arith)) ∙ take-append_seam text (drop (0 + length text) out)

-- ---- both

module _ (i : header.Input) (j : frame.Input) (rest : List ℕ) (e : Exported i j) where
  abbrev text : List ℕ
  text = header.text_of i

  header_check : header.check i ≡ Ok tt
  header_check = header_checked i e.header_done

  drawn : Picture j.w j.h j.y j.u j.v
  drawn = picture j.format j.w j.h j.y j.u j.v (length j.out) (frame_checked j e.frame_done)

  stream_is : stream i j rest ≡ text ++ (frame_text j.y j.u j.v ++ rest)
  unfolding header.outcome frame.outcome
  stream_is =
      let w = writable i.format i.w i.h i.f i.g i.a i.b (length i.out) header_check in
      let s = header_short i.w i.h i.f i.g i.a i.b in
      rw (header_check, frame_checked j e.frame_done) (ap (λ (l : List ℕ). l ++ (frame_text j.y j.u j.v ++ rest)) (written_text text i.out (omega (arith, w.long))))

  -- what the header says, with the place after it or after the frame
  abbrev says : ℕ → Header
  says n = record { w = j.w; h = j.h; f = i.f; g = i.g; a = i.a; b = i.b; next = n }

  header_again : reading.read_of (stream i j rest) ≡ Ok (says (length text))
  header_again =
      let w = writable i.format i.w i.h i.f i.g i.a i.b (length i.out) header_check in
      let b = header_back i.w i.h i.f i.g i.a i.b w.numbers (frame_text j.y j.u j.v ++ rest) in
      ap reading.read_of stream_is ∙ ap reading.read_by b
      ∙ rw (sym e.same_w, sym e.same_h, drawn.sized)

  -- lent planes of the picture's lengths
  module _ (y u v : List ℕ) (yl : length y ≡ length j.y) (ul : length u ≡ length j.u) (vl : length v ≡ length j.v) where
    abbrev lent : import.Input
    lent = record { input = stream i j rest; y = y; u = u; v = v }

    abbrev end : ℕ
    end = frame_end (length text) (luma_length j.w j.h) (chroma_length j.w j.h)

    check_again : framed.check (import.frame_at lent (length text) j.w j.h) ≡ Ok end
    unfolding framed.check_of framed.lengths_ok
    check_again =
        let d = drawn in
        rw (
          d.sized,
          eq-eqb (length y) (luma_length j.w j.h) (yl ∙ d.y_long),
          eq-eqb (length u) (chroma_length j.w j.h) (ul ∙ d.u_long),
          eq-eqb (length v) (chroma_length j.w j.h) (vl ∙ d.v_long),
          stream_is,
        )
        (frame_again text j.y j.u j.v rest j.w j.h d.y_long d.u_long d.v_long d.y_good d.u_good d.v_good)

    read_again : import.outcome lent ≡ import.with (Ok (says end)) (framed.after (import.frame_at lent (length text) j.w j.h) (Ok end))
    unfolding import.outcome
    read_again =
        ap (import.after_header lent) header_again
        ∙ ap (import.after_frame lent (says (length text))) check_again

    pub again : Again i j rest (import.outcome lent)
    again =
        let d = drawn in
        subst (Again i j rest) (sym read_again)
        (record {
          number = refl;
          y = ap (λ (s : List ℕ). y_at s (length text) (luma_length j.w j.h)) stream_is ∙ y_back text j.y j.u j.v rest j.w j.h d.y_long d.u_long d.v_long;
          u = ap (λ (s : List ℕ). u_at s (length text) (luma_length j.w j.h) (chroma_length j.w j.h)) stream_is
              ∙ u_back text j.y j.u j.v rest j.w j.h d.y_long d.u_long d.v_long;
          v = ap (λ (s : List ℕ). v_at s (length text) (luma_length j.w j.h) (chroma_length j.w j.h)) stream_is
              ∙ v_back text j.y j.u j.v rest j.w j.h d.y_long d.u_long d.v_long;
          w = refl;
          h = refl;
          f = refl;
          g = refl;
          a = refl;
          b = refl;
          next = end_is text j.y j.u j.v rest j.w j.h d.y_long d.u_long d.v_long ∙ ap length (sym stream_is);
        })
