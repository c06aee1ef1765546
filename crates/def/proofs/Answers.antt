-- Laws of answers: the numbers tell refusals and answers apart, and an outcome goes by what the checks found.
--     number_apart, number_some, answer_apart
--     on_refusal, on_done
-- Assumes nothing.
use Rattle.std.specs.Prelude.{Ok, Err}
use Prim.Native.Nat.{ℕ, zero, suc, ◌<◌}
use mathlib.Core.Path.{◌≡◌, refl, sym, ap, ◌∙◌}
use mathlib.Core.List.{List, [], ◌∷◌}
use native.Mathlib.Omega.{arith}
use lib.ListN.{get_or}
use Rattle.def.specs.Answers.{answer_number, after_checks}
use Rattle.def.specs.Refusals.{number_of}
use Rattle.def.specs.declared.Refusal.{Refusal}
use Rattle.def.specs.declared.Refusal.TheVariants.{Size, Length, Setting, Split, Leaf, Qp, Sample, Block, Mode, Points, Pivot, Sheet, Record, Band, Keep, Bits}
use Rattle.def.specs.declared.Refusal.TheVariants.{Stream, Short, Rows, Old, Window, Turn}
use Rattle.def.specs.Answers.{Answer}

-- the answers by their numbers
abbrev answers : List Answer
answers =
    Ok tt
    ∷ Err Size
    ∷ Err Length
    ∷ Err Setting
    ∷ Err Split
    ∷ Err Leaf
    ∷ Err Qp
    ∷ Err Sample
    ∷ Err Block
    ∷ Err Mode
    ∷ Err Points
    ∷ Err Pivot
    ∷ Err Sheet
    ∷ Err Record
    ∷ Err Band
    ∷ Err Keep
    ∷ Err Bits
    ∷ Err Stream
    ∷ Err Short
    ∷ Err Rows
    ∷ Err Old
    ∷ Err Window
    ∷ Err Turn
    ∷ []

abbrev answer_of : ℕ → Answer
answer_of n = get_or answers n (Ok tt)

refusal_back : (r : Refusal) → answer_of (number_of r) ≡ Err r
refusal_back Size = refl
refusal_back Length = refl
refusal_back Setting = refl
refusal_back Split = refl
refusal_back Leaf = refl
refusal_back Qp = refl
refusal_back Sample = refl
refusal_back Block = refl
refusal_back Mode = refl
refusal_back Points = refl
refusal_back Pivot = refl
refusal_back Sheet = refl
refusal_back Record = refl
refusal_back Band = refl
refusal_back Keep = refl
refusal_back Bits = refl
refusal_back Stream = refl
refusal_back Short = refl
refusal_back Rows = refl
refusal_back Old = refl
refusal_back Window = refl
refusal_back Turn = refl

back : (a : Answer) → answer_of (answer_number a) ≡ a
back (Ok _) = refl
back (Err r) = refusal_back r

pub answer_apart : (a b : Answer) → answer_number a ≡ answer_number b → a ≡ b
answer_apart a b e = sym (back a) ∙ ap answer_of e ∙ back b

pub number_apart : (a b : Refusal) → number_of a ≡ number_of b → a ≡ b
number_apart a b e = let p : Err a ≡ Err b = answer_apart (Err a) (Err b) e in cc

-- no refusal has the number 0
pub number_some : (r : Refusal) → 0 < number_of r
number_some r = positive (number_of r) (refusal_back r) where
  positive : (n : ℕ) → answer_of n ≡ Err r → 0 < n
  positive zero e = absurd (let z : ◌≡◌ {A = ℕ} 0 1 = cc in omega arith)
  positive (suc n) e = omega arith

-- ---- a call's outcome. a is what the checks answered, and k what the rule's checks find

module _ {O : Type 0} (refused : Refusal → O) (done : O) where
  pub on_refusal : (a k : Answer) (r : Refusal) → a ≡ k → a ≡ Err r → refused r ≡ after_checks refused done k
  on_refusal a k r e q = rw (sym e ∙ q)

  pub on_done : (a k : Answer) (o : O) → a ≡ k → a ≡ Ok tt → o ≡ done → o ≡ after_checks refused done k
  on_done a k o e q p = rw (sym e ∙ q) p
