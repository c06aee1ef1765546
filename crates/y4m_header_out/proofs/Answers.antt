-- The outcome of `write_header`, and what its answer tells.
--     write_refused, write_done, writable    by its checks
--     written_apart    an answer's reading tells it apart from every other
-- Assumes nothing.
use Rattle.std.specs.Prelude.{Ok, Err, Result}
use mathlib.Core.Bool.{true}
use mathlib.Core.List.{List, [], ◌∷◌}
use mathlib.Core.Path.{◌≡◌, ap, ap₂, ◌∙◌}
use Prim.Native.Nat.{ℕ, ◌≤◌}
use native.Mathlib.Nat.{zero-add}
use native.Mathlib.Omega.{arith}
use borrow.Author.Tests.{eqb-true, leb-true}
use lib.Dec.{eqb, leb}
use lib.ListN.{length}
use Rattle.laws.specs.Call.{Gives}
use Rattle.laws.proofs.Bools.{both_left, both_right}
use Rattle.laws.proofs.Calls.{all_at}
use Rattle.def.specs.Picture.{size_ok}
use Rattle.def.specs.Answers.{Answer}
use Rattle.def.specs.declared.Format.{Format}
use Rattle.def.specs.declared.Refusal.{Refusal}
use Rattle.def.proofs.Answers.{number_apart, number_some, on_refusal, on_done}
use Rattle.def.proofs.Ladders.{passes}
use Rattle.def.proofs.Sizes.{sized}
use Rattle.edges.specs.Put.{Put}
use Rattle.y4m_rules.specs.Frames.{colour_ok}
use Rattle.y4m_rules.specs.Numbers.{in_range}
use Rattle.y4m_rules.proofs.Header.{Numbers}
use Rattle.y4m_header_out.specs.WriteCall as writing

-- a number in its range
ranged : (n : ℕ) → in_range n ≡ true → (1 ≤ n) × (n ≤ 65535)
ranged n e = (leb-true 1 n (both_left (leb 1 n) (leb n 65535) e), leb-true n 65535 (both_right (leb 1 n) (leb n 65535) e))

pub record Writable (w h f g a b n : ℕ) : Type 0 where
  pub numbers : Numbers w h f g a b
  pub long : n ≡ 256

pub writable : (c : Format) (w h f g a b n : ℕ) → writing.check_of c w h f g a b n ≡ Ok tt → Writable w h f g a b n
unfolding writing.numbers_ok
writable c w h f g a b n e =
    let first = passes (size_ok w h) _ _ e in
    let second = passes (eqb n 256) _ _ first.rest in
    let third = passes (writing.numbers_ok c f g a b) _ _ second.rest in
    let s = sized w h first.holds in
    let tests = colour_ok c ∷ in_range f ∷ in_range g ∷ in_range a ∷ in_range b ∷ [] in
    let rf = ranged f (all_at tests 1 third.holds) in
    let rg = ranged g (all_at tests 2 third.holds) in
    let ra = ranged a (all_at tests 3 third.holds) in
    let rb = ranged b (all_at tests 4 third.holds) in
    record {
      numbers = record {
        w_small = omega arith;
        h_small = omega arith;
        f_some = rf.0;
        f_most = rf.1;
        g_some = rg.0;
        g_most = rg.1;
        a_some = ra.0;
        a_most = ra.1;
        b_some = rb.0;
        b_most = rb.1;
      };
      long = eqb-true n 256 second.holds;
    }

module _ (i : writing.Input) (k : Answer) (e : k ≡ writing.check i) where
  pub write_refused : (r : Refusal) → k ≡ Err r → Gives writing.outcome i (writing.refused i r)
  unfolding writing.outcome
  write_refused r q = on_refusal (writing.refused i) (writing.done i) k (writing.check i) r e q

  pub write_done : (out : List ℕ) (n : ℕ) → k ≡ Ok tt → Put (writing.text_of i) i.out 0 out n → Gives writing.outcome i (record { reading = record { number = 0; count = n }; out = out })
  unfolding writing.outcome
  write_done out n q p =
      on_done (writing.refused i) (writing.done i) k (writing.check i) _ e q
      (ap₂ (λ (m : ℕ) (l : List ℕ). record { reading = record { number = 0; count = m }; out = l }) (p.count ∙ zero-add (length (writing.text_of i))) p.put)

pub written_apart : (a b : Result ℕ Refusal) → writing.reading_of a ≡ writing.reading_of b → a ≡ b
written_apart (Ok n) (Ok m) e = ap Ok (ap (λ (o : writing.Reading). o.count) e)
written_apart (Ok n) (Err r) e = absurd (let z = ap (λ (o : writing.Reading). o.number) e in omega (arith, number_some r))
written_apart (Err r) (Ok n) e = absurd (let z = ap (λ (o : writing.Reading). o.number) e in omega (arith, number_some r))
written_apart (Err r) (Err r') e = ap Err (number_apart r r' (ap (λ (o : writing.Reading). o.number) e))
