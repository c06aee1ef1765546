-- The outcome of `import_frame`, by what was read.
-- Assumes nothing.
use Rattle.std.specs.Prelude.{Result, Ok, Err}
use mathlib.Core.List.{List}
use mathlib.Core.Path.{◌≡◌, refl, sym, ap, ◌∙◌}
use Prim.Native.Nat.{ℕ}
use Rattle.laws.specs.Call.{Gives}
use Rattle.y4m_rules.specs.declared.Misread.{Misread}
use Rattle.y4m_header.specs.ReadCall as reading
use Rattle.y4m_header.specs.declared.Header.{Header}
use Rattle.y4m_header.proofs.Answers.{read_apart}
use Rattle.y4m_frame.specs.ReadCall as frame
use Rattle.y4m_frame.proofs.Answers.{frame_apart}
use Rattle.y4m.specs.Import.{Input, frame_at, with, after_frame, after_header, outcome}

-- what `read_header` answered
module _ (i : Input) (k : Result Header Misread) (e : Gives reading.outcome (record { input = i.input }) (reading.after k)) where
  header_is : k ≡ reading.read_of i.input
  unfolding reading.outcome
  header_is = read_apart k (reading.read_of i.input) (ap (λ (o : reading.Outcome). o.reading) e)

  pub no_header : (m : Misread) → k ≡ Err m → Gives outcome i (record { reading = reading.reading_of (Err m); y = i.y; u = i.u; v = i.v })
  unfolding outcome
  no_header m q = ap (after_header i) (sym q ∙ header_is)

  module _ (p : Header) (q : k ≡ Ok p) where
    by_frame : outcome i ≡ after_frame i p (frame.check (frame_at i p.next p.w p.h))
    unfolding outcome
    by_frame = ap (after_header i) (sym header_is ∙ q)

    -- what `read_frame` answered, and what it left
    module _ (y u v : List ℕ) (t : Result ℕ Misread)
        (d : Gives frame.outcome (frame_at i p.next p.w p.h) (record { reading = frame.reading_of t; y = y; u = u; v = v })) where
      frame_is : t ≡ frame.check (frame_at i p.next p.w p.h)
      unfolding frame.outcome
      frame_is =
          frame_apart t (frame.check (frame_at i p.next p.w p.h))
          (ap (λ (z : frame.Outcome). z.reading) d ∙ same (frame.check (frame_at i p.next p.w p.h))) where
            same : (x : Result ℕ Misread) → (frame.after (frame_at i p.next p.w p.h) x).reading ≡ frame.reading_of x
            same (Ok n) = refl
            same (Err m) = refl

      left : (r : Result Header Misread) → with r (record { reading = frame.reading_of t; y = y; u = u; v = v }) ≡ with r (frame.after (frame_at i p.next p.w p.h) t)
      unfolding frame.outcome
      left r = ap (with r) (d ∙ ap (frame.after (frame_at i p.next p.w p.h)) (sym frame_is))

      pub no_frame : (m : Misread) → t ≡ Err m → Gives outcome i (record { reading = reading.reading_of (Err m); y = y; u = u; v = v })
      no_frame m z =
          left (Err m) ∙ ap (λ (x : Result ℕ Misread). with (Err m) (frame.after (frame_at i p.next p.w p.h) x)) z
          ∙ ap (after_frame i p) (sym z ∙ frame_is) ∙ sym by_frame

      pub whole : (n : ℕ) → t ≡ Ok n → Gives outcome i (record { reading = reading.reading_of (Ok (record p { next = n })); y = y; u = u; v = v })
      whole n z =
          left (Ok (record p { next = n }))
          ∙ ap (λ (x : Result ℕ Misread). with (Ok (record p { next = n })) (frame.after (frame_at i p.next p.w p.h) x)) z
          ∙ ap (after_frame i p) (sym z ∙ frame_is) ∙ sym by_frame
