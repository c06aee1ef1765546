-- What a picture that is written tells, and the outcome of `write_frame`.
--     Writable, writable    the length of its bytes
--     write_refused, write_done    the outcome
-- Assumes nothing.
use Rattle.std.specs.Prelude.{Ok, Err}
use mathlib.Core.List.{List, [], ◌∷◌, ◌++◌, append-nil}
use mathlib.Core.Path.{◌≡◌, sym, ap, ◌∙◌}
use Prim.Native.Nat.{ℕ, ◌+◌, ◌*◌}
use native.Mathlib.Omega.{arith}
use borrow.Author.Tests.{eqb-true}
use lib.Dec.{eqb}
use lib.ListN.{length, length-append, drop_of_length-le}
use lib.Seq.{sets-eq}
use Rattle.laws.specs.Call.{Gives}
use Rattle.laws.proofs.Calls.{all_at}
use Rattle.def.specs.Formats.{colour_length}
use Rattle.def.specs.Picture.{size_ok, luma_length}
use Rattle.def.specs.Answers.{Answer}
use Rattle.def.specs.declared.Format.{Format}
use Rattle.def.specs.declared.Refusal.{Refusal}
use Rattle.def.proofs.Answers.{on_refusal, on_done}
use Rattle.def.proofs.Ladders.{passes}
use Rattle.edges.specs.Put.{Put}
use Rattle.edges.proofs.Puts.{put_then}
use Rattle.y4m_rules.specs.Words.{frame_line}
use Rattle.y4m_rules.specs.Frames.{frame_length, bytes_of, frame_text}
use Rattle.y4m_rules.proofs.Frames.{bytes_long}
use Rattle.y4m_frame_out.specs.WriteCall as writing

pub record Writable (w h y u v out : ℕ) : Type 0 where
  pub out_long : out ≡ 6 + 2 * y + 2 * u + 2 * v

pub writable : (c : Format) (w h : ℕ) (y u v : List ℕ) (out : ℕ) → writing.check_of c w h y u v out ≡ Ok tt → Writable w h (length y) (length u) (length v) out
unfolding writing.check_of writing.lengths_ok
writable c w h y u v out e =
    let a = passes (size_ok w h) _ _ e in
    let tests = eqb (length y) (luma_length w h) ∷ eqb (length u) (colour_length c w h) ∷ eqb (length v) (colour_length c w h) ∷ eqb out (frame_length c w h) ∷ [] in
    let b = passes _ _ _ a.rest in
    let yl = eqb-true (length y) (luma_length w h) (all_at tests 0 b.holds) in
    let ul = eqb-true (length u) (colour_length c w h) (all_at tests 1 b.holds) in
    let vl = eqb-true (length v) (colour_length c w h) (all_at tests 2 b.holds) in
    let ol : out ≡ frame_length c w h = eqb-true out (frame_length c w h) (all_at tests 3 b.holds) in
    record { out_long = omega (arith, yl, ul, vl, ol) }

frame_long : (y u v : List ℕ) → length (frame_text y u v) ≡ 6 + 2 * length y + 2 * length u + 2 * length v
unfolding frame_text
frame_long y u v =
    omega (arith, length-append (bytes_of y) (bytes_of u ++ bytes_of v), length-append (bytes_of u) (bytes_of v), bytes_long y, bytes_long u, bytes_long v)

-- a text that fills the buffer
whole_put : (text out out' : List ℕ) (n : ℕ) → Put text out 0 out' n → length text ≡ length out → out' ≡ text
whole_put text out out' n p e =
    p.put ∙ sets-eq text out 0 (omega arith)
    ∙ ap (λ (l : List ℕ). text ++ l) (drop_of_length-le out {i = 0 + length text} (omega arith)) ∙ append-nil text

module _ (i : writing.Input) (k : Answer) (e : k ≡ writing.check i) where
  pub write_refused : (r : Refusal) → k ≡ Err r → Gives writing.outcome i (writing.refused i r)
  unfolding writing.outcome
  write_refused r q = on_refusal (writing.refused i) (writing.done i) k (writing.check i) r e q

  pub write_done : {o₁ o₂ o₃ o₄ : List ℕ} {n₁ n₂ n₃ n₄ : ℕ} → k ≡ Ok tt → Put frame_line i.out 0 o₁ n₁ → Put (bytes_of i.y) o₁ n₁ o₂ n₂
      → Put (bytes_of i.u) o₂ n₂ o₃ n₃ → Put (bytes_of i.v) o₃ n₃ o₄ n₄ → Gives writing.outcome i (record { number = 0; out = o₄ })
  unfolding writing.outcome frame_text
  write_done q a b c d =
      let w = writable i.format i.w i.h i.y i.u i.v (length i.out) (sym e ∙ q) in
      on_done (writing.refused i) (writing.done i) k (writing.check i) _ e q
      (ap (λ (l : List ℕ). record { number = 0; out = l })
      (whole_put _ i.out _ _ (put_then a (put_then b (put_then c d))) (frame_long i.y i.u i.v ∙ sym w.out_long)))
