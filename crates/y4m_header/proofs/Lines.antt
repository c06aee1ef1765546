-- The words of a header one after the other: what is known where the loop stands, and the answer at each way out.
--     Going, going, step     what is left of the header is what it comes to
--     at_newline, at_word, at_end    the answers
--     head_is, head_fits, magic_long    the bytes that a header may have, and the magic word
-- Assumes nothing.
use Rattle.std.specs.Prelude.{Option, Some, None, unwrap_or, Result, Ok, Err}
use mathlib.Core.Bool.{Bool, true, false}
use mathlib.Core.List.{List}
use mathlib.Core.Path.{◌≡◌, refl, sym, ap, ◌∙◌, subst}
use Prim.Native.Nat.{ℕ, zero, suc, ◌+◌, ◌-◌, ◌≤◌, ◌<◌}
use native.Mathlib.Omega.{arith}
use borrow.Author.Tests.{eq-eqb, ne_eqb, eqb-true, ltb-true, ltb-false}
use lib.Dec.{eqb, ltb}
use lib.ListN.{length, take, drop, get_or, drop_of_length-le}
use lib.Seq.{drop-drop, take_all}
use Rattle.laws.specs.Call.{unless}
use Rattle.laws.specs.Index.{pick}
use Rattle.laws.proofs.Bools.{both_right}
use Rattle.sheet_lines.specs.Lines.{starts_with, same_line}
use Rattle.sheet_lines.proofs.Forms.{rest_of}
use Rattle.y4m_rules.specs.Words.{magic, word_of}
use Rattle.y4m_rules.specs.Header.{nothing, word_ok, tell, Header, malformed, needed, ending, words, head_of, header_in}
use Rattle.y4m_rules.specs.Misreads.{misread}
use Rattle.y4m_rules.specs.declared.Misread.{Misread}
use Rattle.y4m_rules.specs.declared.Said.{Said}
use Rattle.y4m_rules.proofs.Reading.{here, before_take, before_fits}
use Rattle.def.specs.declared.Refusal.TheVariants.{Stream}
use Rattle.y4m_header.specs.Values.{told_by, words_of, head_length}
use Rattle.y4m_header.specs.declared.Header.{Header as Read}

-- ---- the newline

pub ending_whole : (p : Said) (at w h : ℕ) → p.w ≡ Some w → p.h ≡ Some h → p.c ≡ true
    → Ok (record { w = w; h = h; f = (unwrap_or p.f (0, 0)).0; g = (unwrap_or p.f (0, 0)).1; a = (unwrap_or p.a (0, 0)).0; b = (unwrap_or p.a (0, 0)).1; next = at + 1 })
    ≡ words_of (ending p at)
unfolding ending
ending_whole p at w h e f g = rw (e, f, g)

pub ending_missing : (p : Said) (at : ℕ) → needed p ≡ false → Err (misread Stream at) ≡ words_of (ending p at)
unfolding ending
ending_missing p at e = rw e

-- ---- where the loop stands

abbrev header_from : List ℕ → Header
header_from head = words 256 9 (drop 9 head) nothing

-- p was said before the place, and n is as many as the bytes that are left, or more
pub record Going (head : List ℕ) (p : Said) (at : ℕ) : Type 0 where
  pub n : ℕ
  pub enough : length head ≤ at + n
  pub inside : at ≤ length head
  pub same : header_from head ≡ words n at (drop at head) p

pub going : (head : List ℕ) (p : Said) → p ≡ nothing → 9 ≤ length head → length head ≤ 256 → Going head p 9
going head p e h k = record { n = 256; enough = omega arith; inside = h; same = ap (words 256 9 (drop 9 head)) (sym e) }

-- the word after the byte at a place
abbrev word_at : List ℕ → ℕ → List ℕ
word_at head at = word_of (drop (at + 1) head)

on_newline : (head : List ℕ) (p : Said) (n at : ℕ) → at < length head → get_or head at 0 ≡ 10 → length head ≤ at + n → words n at (drop at head) p ≡ ending p at
unfolding words
on_newline head p zero at h e k = absurd (omega arith)
on_newline head p (suc n) at h e k = rw (here head at h, eq-eqb (get_or head at 0) 10 e)

record Onward (head : List ℕ) (p : Said) (at n : ℕ) : Type 0 where
  m : ℕ
  one : n ≡ suc m
  next : words n at (drop at head) p
      ≡ unless (word_ok (word_at head at) p) (malformed (at + 1)) (words m (at + 1 + length (word_at head at)) (drop (at + 1 + length (word_at head at)) head) (tell (word_at head at) p))

on_word : (head : List ℕ) (p : Said) (n at : ℕ) → at < length head → (get_or head at 0 ≡ 10 → ⊥) → length head ≤ at + n → Onward head p at n
unfolding words
on_word head p zero at h e k = absurd (omega arith)
on_word head p (suc n) at h e k =
    record { m = n; one = refl; next = rw (here head at h, ne_eqb (get_or head at 0) 10 e, drop-drop (length (word_at head at)) (at + 1) head) }

on_end : (head : List ℕ) (p : Said) (n at : ℕ) → length head ≤ at → words n at (drop at head) p ≡ malformed at
unfolding words
on_end head p zero at h = refl
on_end head p (suc n) at h = rw (drop_of_length-le head h)

-- what was counted
pub word_is : (head : List ℕ) (from n : ℕ) → n ≡ length (word_of (take (length head - from) (drop from head))) → n ≡ length (word_of (drop from head))
word_is head from n e = e ∙ ap (λ (l : List ℕ). length (word_of l)) (rest_of from head)

-- the slice of the word
word_part : (head : List ℕ) (from len : ℕ) → len ≡ length (word_of (drop from head)) → take (from + len - from) (drop from head) ≡ word_of (drop from head)
word_part head from len e =
    let q : from + len - from ≡ length (word_of (drop from head)) = omega arith in
    ap (λ (k : ℕ). take k (drop from head)) q ∙ before_take 32 10 (drop from head)

module _ (head : List ℕ) (p : Said) (at : ℕ) (g : Going head p at) where
  module _ (h : at < length head) where
    pub at_newline : get_or head at 0 ≡ 10 → words_of (ending p at) ≡ words_of (header_from head)
    at_newline e = ap words_of (sym (on_newline head p g.n at h e g.enough) ∙ sym g.same)

    -- a word of len bytes, and what telling it came to
    module _ (e : get_or head at 0 ≡ 10 → ⊥) (len : ℕ) (l : len ≡ length (word_of (drop (at + 1) head))) (t : Option Said)
        (d : t ≡ told_by (word_ok (take (at + 1 + len - (at + 1)) (drop (at + 1) head)) p) (tell (take (at + 1 + len - (at + 1)) (drop (at + 1) head)) p)) where
      told : t ≡ told_by (word_ok (word_at head at) p) (tell (word_at head at) p)
      told = d ∙ ap (λ (w : List ℕ). told_by (word_ok w p) (tell w p)) (word_part head (at + 1) len l)

      on : Onward head p at g.n
      on = on_word head p g.n at h e g.enough

      pub at_word : t ≡ None → Err (misread Stream (at + 1)) ≡ words_of (header_from head)
      at_word q = go (word_ok (word_at head at) p) refl (sym told ∙ q) ∙ ap words_of (sym on.next ∙ sym g.same) where
        go : (k : Bool) → word_ok (word_at head at) p ≡ k → told_by k (tell (word_at head at) p) ≡ None
            → Err (misread Stream (at + 1)) ≡ words_of (unless (word_ok (word_at head at) p) (malformed (at + 1))
            (words on.m (at + 1 + length (word_at head at)) (drop (at + 1 + length (word_at head at)) head) (tell (word_at head at) p)))
        go true o z = absurd (let y : ◌≡◌ {A = ℕ} 0 1 = cc in omega arith)
        go false o z = rw o

      pub step : (q : Said) → t ≡ Some q → Going head q (at + 1 + len)
      step q r = go (word_ok (word_at head at) p) refl (sym told ∙ r) where
        go : (k : Bool) → word_ok (word_at head at) p ≡ k → told_by k (tell (word_at head at) p) ≡ Some q → Going head q (at + 1 + len)
        go false o z = absurd (let y : ◌≡◌ {A = ℕ} 0 1 = cc in omega arith)
        go true o z =
            let s : tell (word_at head at) p ≡ q = cc in
            let f = before_fits 32 10 head (at + 1) (omega arith) in
            record {
              n = on.m;
              enough = omega (arith, on.one, g.enough);
              inside = omega arith;
              same = g.same ∙ on.next ∙ rw (o, s) (ap (λ (k : ℕ). words on.m (at + 1 + k) (drop (at + 1 + k) head) q) (sym l));
            }

  pub at_end : length head ≤ at → Err (misread Stream at) ≡ words_of (header_from head)
  at_end h = sym (ap words_of (g.same ∙ on_end head p g.n at h))

-- ---- the bytes that a header may have, and the magic word

pub head_is : (s : List ℕ) (n : ℕ) → n ≡ head_length (length s) → take n s ≡ head_of s
head_is s n e = ap (λ (k : ℕ). take k s) e ∙ go (ltb (length s) 256) refl where
  go : (t : Bool) → ltb (length s) 256 ≡ t → take (pick t (length s) 256) s ≡ head_of s
  go true q = let h = ltb-true (length s) 256 q in take_all (length s) s (omega arith) ∙ sym (take_all 256 s (omega arith))
  go false q = refl

pub head_fits : (k n : ℕ) → n ≡ head_length k → (n ≤ k) × (n ≤ 256)
head_fits k n e = subst (λ (m : ℕ). (m ≤ k) × (m ≤ 256)) (sym e) (go (ltb k 256) refl) where
  go : (t : Bool) → ltb k 256 ≡ t → (pick t k 256 ≤ k) × (pick t k 256 ≤ 256)
  go true q = let h = ltb-true k 256 q in (omega arith, omega arith)
  go false q = let h = ltb-false k 256 q in (omega arith, omega arith)

pub magic_long : (l : List ℕ) → same_line magic l ≡ true → length l ≡ 9
unfolding same_line
magic_long l e = eqb-true (length l) 9 (both_right (starts_with magic l) (eqb (length l) 9) e)

-- the answer, by the magic word
module _ (s head : List ℕ) (e : head ≡ head_of s) where
  pub no_magic : same_line magic (word_of head) ≡ false → Err (misread Stream 0) ≡ words_of (header_in s)
  unfolding header_in
  no_magic q = rw (sym e, q)

  pub with_magic : (v : Result Read Misread) → same_line magic (word_of head) ≡ true → v ≡ words_of (header_from head) → v ≡ words_of (header_in s)
  unfolding header_in
  with_magic v q p = rw (sym e, q) p
