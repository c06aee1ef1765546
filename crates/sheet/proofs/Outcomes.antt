-- The outcome of `listing`, and what its answer tells.
--     buffer_no, printed_whole    each way through the call
--     reading_apart               an answer's reading tells it apart from every other
--     text_fits                   the text that was written lies in the buffer
-- Assumes nothing.
use Rattle.std.specs.Prelude.{Ok, Err, Result}
use mathlib.Core.List.{List, ◌++◌}
use mathlib.Core.Path.{◌≡◌, sym, ap, ◌∙◌}
use Prim.Native.Nat.{ℕ, ◌≤◌}
use native.Mathlib.Nat.{zero-add}
use native.Mathlib.Omega.{arith}
use borrow.Author.Tests.{eq-eqb, ne_eqb}
use lib.ListN.{length, drop, length-append, length-drop}
use lib.Seq.{sets-eq}
use Rattle.def.specs.declared.Refusal.{Refusal}
use Rattle.laws.specs.Call.{Gives}
use Rattle.def.specs.Answers.{after_checks}
use Rattle.def.specs.Answers.{Answer}
use Rattle.def.specs.declared.Refusal.TheVariants.{Length}
use Rattle.def.proofs.Answers.{number_apart, number_some}
use Rattle.sheet.specs.Listing.{Reading, Outcome, reading_of, check, refused, done, outcome}
use Rattle.sheet.specs.Puts.{Starts}
use Rattle.sheet.specs.Text.{text_of}

pub buffer_no : (input out : List ℕ) → (length out ≡ 81920 → ⊥) → Gives outcome (record { input = input; out = out }) (record { reading = reading_of (Err Length); out = out })
unfolding outcome check
buffer_no input out n = rw (ne_eqb (length out) 81920 n)

pub printed_whole : (input out out' : List ℕ) (r : ℕ) → length out ≡ 81920 → Starts (text_of input) out out' r
    → Gives outcome (record { input = input; out = out }) (record { reading = reading_of (Ok r); out = out' })
unfolding outcome check
printed_whole input out out' r n p =
    let text = text_of input in
    let c : r ≡ length text = p.put.count ∙ zero-add (length text) in
    let s : out' ≡ text ++ drop (length text) out = p.put.put ∙ sets-eq text out 0 (omega (arith, p.put.count, p.fits)) ∙ ap (λ (k : ℕ). text ++ drop k out) (zero-add (length text)) in
    rw (eq-eqb (length out) 81920 n) (λ i. record { reading = record { number = 0; length = c i }; out = s i })

pub reading_apart : (a b : Result ℕ Refusal) → reading_of a ≡ reading_of b → a ≡ b
reading_apart (Ok m) (Ok n) e = ap Ok (ap (λ (o : Reading). o.length) e)
reading_apart (Ok m) (Err r) e = absurd (let z = ap (λ (o : Reading). o.number) e in omega (arith, number_some r))
reading_apart (Err r) (Ok n) e = absurd (let z = ap (λ (o : Reading). o.number) e in omega (arith, number_some r))
reading_apart (Err r) (Err q) e = ap Err (number_apart r q (ap (λ (o : Reading). o.number) e))

-- ---- for who calls it

-- the text that was written lies in the buffer: a count beside the rest of a list is at most the whole
part_fits : (text out : List ℕ) → length (text ++ drop (length text) out) ≡ length out → length text ≤ length out
part_fits text out e = omega (arith, length-append text (drop (length text) out), length-drop (length text) out)

pub text_fits : (input out out' : List ℕ) (r : Result ℕ Refusal) (n : ℕ) → length out' ≡ length out
    → Gives outcome (record { input = input; out = out }) (record { reading = reading_of r; out = out' }) → r ≡ Ok n → n ≤ length out'
unfolding outcome
text_fits input out out' r n l g e = go (check (record { input = input; out = out })) g where
  go : (k : Answer) → record { reading = reading_of r; out = out' } ≡ after_checks (refused (record { input = input; out = out })) (done (record { input = input; out = out })) k → n ≤ length out'
  go (Ok _) p =
      let m : n ≡ length (text_of input) = sym (ap (λ (o : Result ℕ Refusal). (reading_of o).length) e) ∙ ap (λ (o : Outcome). o.reading.length) p in
      let q : out' ≡ text_of input ++ drop (length (text_of input)) out = ap (λ (o : Outcome). o.out) p in
      omega (arith, part_fits (text_of input) out (sym (ap length q) ∙ l))
  go (Err q) p = let z : n ≡ 0 = sym (ap (λ (o : Result ℕ Refusal). (reading_of o).length) e) ∙ ap (λ (o : Outcome). o.reading.length) p in omega arith
