-- The copied ranks: what the checks that passed say, and that the part of the table is the five bytes.
-- Assumes nothing.
use Rattle.std.specs.Prelude.{Ok, Err}
use Prim.Native.Nat.{ℕ}
use mathlib.Core.Path.{◌≡◌, refl, ap, ◌∙◌}
use mathlib.Core.Bool.{Bool, true, false}
use native.Mathlib.Omega.{arith}
use borrow.Author.Tests.{eqb-true}
use lib.Dec.{eqb}
use lib.ListN.{length}
use Rattle.laws.specs.Call.{unless}
use Rattle.def.specs.Answers.{answer_number}
use Rattle.def.specs.Picture.{size_ok}
use Rattle.def.specs.Refusals.{number_of}
use Rattle.def.specs.Answers.{Answer}
use Rattle.def.specs.declared.Refusal.{Refusal}
use Rattle.def.specs.declared.Refusal.TheVariants.{Size, Length}
use Rattle.def.proofs.Answers.{answer_apart, number_some}
use Rattle.mpm.specs.Ranks as lookup
use Rattle.mpm.proofs.Parts.{five_where_done}
use Rattle.decoder_c.specs.Ranks.{check_of, ranks_of}

-- the companion's number tells what its checks found
pub found : (i : lookup.Input) (a : Answer) → record { number = answer_number a } ≡ lookup.number_outcome i → a ≡ lookup.check i
unfolding lookup.number_outcome
found i a e = answer_apart a (lookup.check i) (ap (λ (o : lookup.Outcome). o.number) e)

other_number : (r : Refusal) → ◌≡◌ {A = Answer} (Err r) (Ok tt) → ⊥
other_number r e = let n : number_of r ≡ 0 = ap answer_number e in omega (arith, number_some r)

passed : (a b : Bool) (k : Answer) → unless a (Err Size) (unless b (Err Length) k) ≡ Ok tt → (b ≡ true) × (k ≡ Ok tt)
passed true true k e = (refl, e)
passed true false k e = absurd (other_number Length e)
passed false b k e = absurd (other_number Size e)

-- past the checks: the slice that is written holds five, and the lookup accepts
pub accepted : (i : lookup.Input) (n : ℕ) → check_of i n ≡ Ok tt → (n ≡ 5) × (lookup.check i ≡ Ok tt)
unfolding check_of
accepted i n e = let p = passed (size_ok i.w i.h) (eqb n 5) (lookup.check i) e in (eqb-true n 5 p.0, p.1)

-- the part then has five bytes, and they are the ranks
module _ (i : lookup.PartInput) (p : lookup.Part) (gives : p ≡ lookup.part_outcome i) (ok : lookup.check i.input ≡ Ok tt) where
  none_refused : (lookup.number_outcome i.input).number ≡ 0
  unfolding lookup.number_outcome
  none_refused = rw ok refl

  pub five : length p.bytes ≡ 5
  five = ap (λ (q : lookup.Part). length q.bytes) gives ∙ five_where_done i none_refused

  pub ranks : p.bytes ≡ ranks_of i.input
  unfolding lookup.part_outcome
  ranks = rw (gives, ok) refl
