-- The outcome of `read_header`, and what its answer tells.
--     read_malformed, read_size, read_whole    by what the words come to
--     read_apart    an answer's reading tells it apart from every other
-- Assumes nothing.
use Rattle.std.specs.Prelude.{Result, Ok, Err}
use mathlib.Core.Bool.{Bool, true, false}
use mathlib.Core.List.{List}
use mathlib.Core.Path.{◌≡◌, refl, sym, ap, ap₂, ◌∙◌}
use Prim.Native.Nat.{ℕ}
use native.Mathlib.Omega.{arith}
use Rattle.laws.specs.Call.{Gives}
use Rattle.laws.proofs.Calls.{at_refusal, past_refusal}
use Rattle.def.specs.Picture.{size_ok}
use Rattle.def.specs.declared.Refusal.{Refusal}
use Rattle.def.specs.declared.Refusal.TheVariants.{Size}
use Rattle.def.proofs.Answers.{number_apart, number_some}
use Rattle.y4m_rules.specs.Header.{Header as Line, malformed, said, header_in}
use Rattle.y4m_rules.specs.Misreads.{misread}
use Rattle.y4m_rules.specs.declared.Misread.{Misread}
use Rattle.y4m_header.specs.Values.{words_of}
use Rattle.y4m_header.specs.ReadCall as reading
use Rattle.y4m_header.specs.declared.Header.{Header}

-- by what the words come to
by_words : Result Header Misread → Result Header Misread
by_words (Err m) = Err m
by_words (Ok p) = reading.sized p

words_read : (k : Line) → by_words (words_of k) ≡ reading.read_by k
unfolding by_words
words_read (malformed at) = refl
words_read (said p n) = refl

module _ (s : List ℕ) (v : Result Header Misread) (e : v ≡ words_of (header_in s)) where
  read_is : reading.after (by_words v) ≡ reading.outcome (record { input = s })
  unfolding reading.outcome
  read_is = ap reading.after (ap by_words e ∙ words_read (header_in s))

  pub read_malformed : (m : Misread) → v ≡ Err m → Gives reading.outcome (record { input = s }) (reading.after (Err m))
  unfolding by_words
  read_malformed m q = ap (λ (r : Result Header Misread). reading.after (by_words r)) (sym q) ∙ read_is

  module _ (p : Header) (q : v ≡ Ok p) (t : Bool) (d : t ≡ size_ok p.w p.h) where
    by_size : reading.after (reading.sized p) ≡ reading.outcome (record { input = s })
    unfolding by_words
    by_size = ap (λ (r : Result Header Misread). reading.after (by_words r)) (sym q) ∙ read_is

    pub read_size : t ≡ false → Gives reading.outcome (record { input = s }) (reading.after (Err (misread Size 0)))
    read_size f = ap reading.after (at_refusal (size_ok p.w p.h) _ _ (sym d ∙ f)) ∙ by_size

    pub read_whole : t ≡ true → Gives reading.outcome (record { input = s }) (reading.after (Ok p))
    read_whole f = ap reading.after (past_refusal (size_ok p.w p.h) _ _ _ (sym d ∙ f) refl) ∙ by_size

pub read_apart : (a b : Result Header Misread) → reading.reading_of a ≡ reading.reading_of b → a ≡ b
read_apart (Ok p) (Ok p') e =
    λ i. Ok (record { w = (e i).w; h = (e i).h; f = (e i).f; g = (e i).g; a = (e i).a; b = (e i).b; next = (e i).next })
read_apart (Ok p) (Err m) e = absurd (let z = ap (λ (o : reading.Reading). o.number) e in omega (arith, number_some m.refusal))
read_apart (Err m) (Ok p) e = absurd (let z = ap (λ (o : reading.Reading). o.number) e in omega (arith, number_some m.refusal))
read_apart (Err m) (Err m') e =
    ap₂ (λ (r : Refusal) (n : ℕ). Err (misread r n))
    (number_apart m.refusal m'.refusal (ap (λ (o : reading.Reading). o.number) e)) (ap (λ (o : reading.Reading). o.at) e)
