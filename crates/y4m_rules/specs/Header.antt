-- The header line of a stream: what is written, and what is read, word by word. A place counts bytes from the stream's first, from 0.
-- Assumes nothing: these are definitions.
use Rattle.std.specs.Prelude.{ℕ, zero, suc, ◌+◌, Bool, true, false, not, Some, None, is_some, ◌&&◌, List, [], ◌∷◌, ◌++◌, eqb, length, take, drop}
use Rattle.laws.specs.Call.{unless, all_of}
use Rattle.laws.specs.Index.{pick}
use Rattle.sheet_lines.specs.Lines.{same_line}
use Rattle.y4m_rules.specs.Words.{magic, progressive, format, word_of}
use Rattle.y4m_rules.specs.Numbers.{number, ratio, is_number, value_of, is_ratio, upper, lower}
use Rattle.y4m_rules.specs.declared.Said.{Said}

-- ---- what is written: W, H, F, I, A and C, in that order

-- a space, the letter, the value, and what follows
abbrev pub param : (letter : ℕ) → List ℕ → List ℕ → List ℕ
param letter value rest = 32 ∷ letter ∷ (value ++ rest)

unfoldable pub header_text : (w h f g a b : ℕ) → List ℕ
header_text w h f g a b =
    magic ++ param 87 (number w) (param 72 (number h) (param 70 (ratio f g) (param 73 progressive (param 65 (ratio a b) (param 67 format (10 ∷ []))))))

-- the header up to H
abbrev pub sides_text : ℕ → ℕ → List ℕ
sides_text w h = magic ++ param 87 (number w) (32 ∷ 72 ∷ number h)

-- ---- what a word says

-- nothing was said
abbrev pub nothing : Said
nothing = record { w = None; h = None; f = None; a = None; i = false; c = false }

abbrev pub with_w : ℕ → Said → Said
with_w n p = record { w = Some n; h = p.h; f = p.f; a = p.a; i = p.i; c = p.c }

abbrev pub with_h : ℕ → Said → Said
with_h n p = record { w = p.w; h = Some n; f = p.f; a = p.a; i = p.i; c = p.c }

abbrev pub with_f : ℕ → ℕ → Said → Said
with_f n m p = record { w = p.w; h = p.h; f = Some (n, m); a = p.a; i = p.i; c = p.c }

abbrev pub with_i : Said → Said
with_i p = record { w = p.w; h = p.h; f = p.f; a = p.a; i = true; c = p.c }

abbrev pub with_a : ℕ → ℕ → Said → Said
with_a n m p = record { w = p.w; h = p.h; f = p.f; a = Some (n, m); i = p.i; c = p.c }

abbrev pub with_c : Said → Said
with_c p = record { w = p.w; h = p.h; f = p.f; a = p.a; i = p.i; c = true }

-- a letter's value may stand: X with any; W, H, F, I, A and C, each once, with its form; and no other letter
unfoldable pub value_ok : ℕ → List ℕ → Said → Bool
value_ok letter v p =
    pick (eqb letter 88) true
    (pick (eqb letter 87) (not (is_some p.w) && is_number v)
    (pick (eqb letter 72) (not (is_some p.h) && is_number v)
    (pick (eqb letter 70) (not (is_some p.f) && is_ratio v)
    (pick (eqb letter 73) (not p.i && same_line progressive v)
    (pick (eqb letter 65) (not (is_some p.a) && is_ratio v)
    (pick (eqb letter 67) (not p.c && same_line format v)
    false))))))

-- what has been said with it
unfoldable pub said_with : ℕ → List ℕ → Said → Said
said_with letter v p =
    pick (eqb letter 88) p
    (pick (eqb letter 87) (with_w (value_of v) p)
    (pick (eqb letter 72) (with_h (value_of v) p)
    (pick (eqb letter 70) (with_f (upper v) (lower v) p)
    (pick (eqb letter 73) (with_i p)
    (pick (eqb letter 65) (with_a (upper v) (lower v) p)
    (with_c p))))))

-- the same of a word, which has a letter
abbrev pub word_ok : List ℕ → Said → Bool
word_ok [] p = false
word_ok (letter ∷ v) p = value_ok letter v p

abbrev pub tell : List ℕ → Said → Said
tell [] p = p
tell (letter ∷ v) p = said_with letter v p

-- ---- what is read

-- a header that is malformed at a place; or what it says, and the place after it
pub data Header : Type 0 where
  malformed : ℕ → Header
  said : Said → ℕ → Header

-- where a header ends, W, H and C have come
abbrev pub needed : Said → Bool
needed p = all_of (is_some p.w ∷ is_some p.h ∷ p.c ∷ [])

unfoldable pub ending : Said → ℕ → Header
ending p at = unless (needed p) (malformed at) (said p (at + 1))

-- the words of a header from a place on, where bytes that follow a word stand: its newline ends the header, a space stands before the next word,
-- and bytes that end before the newline are malformed where they end. n: as many as the bytes, or more
unfoldable pub words : (n at : ℕ) → List ℕ → Said → Header
words zero at s p = malformed at
words (suc n) at [] p = malformed at
words (suc n) at (c ∷ s) p =
    pick (eqb c 10) (ending p at)
    (unless (word_ok (word_of s) p) (malformed (at + 1))
    (words n (at + 1 + length (word_of s)) (drop (length (word_of s)) s) (tell (word_of s) p)))

-- a header has at most 256 bytes with its newline
abbrev pub head_of : List ℕ → List ℕ
head_of s = take 256 s

-- the magic word, and then the others
unfoldable pub header_in : List ℕ → Header
header_in s = unless (same_line magic (word_of (head_of s))) (malformed 0) (words 256 9 (drop 9 (head_of s)) nothing)
