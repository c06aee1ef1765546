-- The outcome of `read`, and what its answer tells.
--     gives, answer_is            the outcome of an answer, and back
--     reading_apart               an answer's reading tells it apart from every other
--     Whole, whole_sheet_lem          what is known where all five lines are well formed
--     Bad, bad_line               what is known where one is not
-- Assumes nothing.
use Rattle.std.specs.Prelude.{Result, Ok, Err}
use mathlib.Core.Bool.{Bool, true, false}
use mathlib.Core.List.{List, [], ◌∷◌}
use mathlib.Core.Path.{◌≡◌, refl, sym, ap, ap₂, ◌∙◌}
use Prim.Native.Nat.{ℕ, zero, suc, ◌+◌, ◌-◌, ◌≤◌, ◌<◌}
use native.Mathlib.Omega.{arith}
use borrow.Author.Tests.{ltb-true, eqb-true}
use lib.Dec.{leb, eqb}
use lib.ListN.{length, take, drop}
use lib.Seq.{take-nil, drop-drop}
use Rattle.laws.specs.Call.{Gives, unless}
use Rattle.laws.proofs.Bools.{both_left, both_right}
use Rattle.laws.proofs.Calls.{all_at}
use Rattle.sheet_lines.specs.Lines.{line_from, start_of, line, starts_with, binary, splits_line, line_ok, line_tests, first_bad, width_of, height_of, limit_of, old_of, digits_of}
use Rattle.sheet_lines.specs.ReadCall.{Reading, Outcome, reading_of, after, malformed, whole_sheet, read_of, outcome}
use Rattle.sheet_lines.specs.Words.{splits_key}
use Rattle.sheet_lines.specs.declared.Kind.TheVariants.{Width, Height, Limit, Edge, Splits}
use Rattle.sheet_lines.specs.declared.Malformed.{Malformed}
use Rattle.sheet_lines.specs.declared.Sheet.{Sheet}
use Rattle.sheet_lines.proofs.Forms.{key_fits, line_part}

-- ---- the outcome

pub gives : (s : List ℕ) (r : Result Sheet Malformed) → r ≡ read_of s → Gives outcome (record { input = s }) (after r)
unfolding outcome
gives s r e = ap after e

pub reading_apart : (a b : Result Sheet Malformed) → reading_of a ≡ reading_of b → a ≡ b
reading_apart (Ok p) (Ok q) e =
    λ i. Ok (record { w = (e i).w; h = (e i).h; limit = (e i).limit; old = (e i).old; from = (e i).from; to = (e i).to })
reading_apart (Ok p) (Err m) e = absurd (let z = ap (λ (o : Reading). o.number) e in omega arith)
reading_apart (Err m) (Ok p) e = absurd (let z = ap (λ (o : Reading). o.number) e in omega arith)
reading_apart (Err m) (Err n) e = ap malformed (ap (λ (o : Reading). o.line) e)

pub answer_is : (s : List ℕ) (r : Result Sheet Malformed) → Gives outcome (record { input = s }) (after r) → r ≡ read_of s
unfolding outcome
answer_is s r e = reading_apart r (read_of s) (ap (λ (o : Outcome). o.reading) e)

-- ---- for who calls it

take_of_drop : (k n : ℕ) (l : List ℕ) → drop k (take n l) ≡ take (n - k) (drop k l)
take_of_drop zero n l = let e : n - 0 ≡ n = omega arith in ap (λ (m : ℕ). take m l) (sym e)
take_of_drop (suc k) zero l = let e : 0 - suc k ≡ 0 = omega arith in sym (ap (λ (m : ℕ). take m (drop (suc k) l)) e)
take_of_drop (suc k) (suc n) [] = sym (take-nil (suc n - suc k))
take_of_drop (suc k) (suc n) (b ∷ l) = let e : suc n - suc k ≡ n - k = omega arith in take_of_drop k n l ∙ ap (λ (m : ℕ). take m (drop k l)) (sym e)

-- the slice of the digits is what follows the key in line 5
digits_part : (s : List ℕ) (at n k : ℕ) → n ≡ length (line_from s at) → take (at + n - (at + k)) (drop (at + k) s) ≡ drop k (line_from s at)
digits_part s at n k e =
    let q : at + n - (at + k) ≡ n - k = omega arith in
    let r : at + n - at ≡ n = omega arith in
    ap₂ (λ (m : ℕ) (l : List ℕ). take m l) q (sym (drop-drop k at s))
    ∙ sym (take_of_drop k n (drop at s))
    ∙ ap (drop k) (ap (λ (m : ℕ). take m (drop at s)) (sym r) ∙ line_part s at n e)

-- a row of tests that comes to 0 has passed
passed : (t : Bool) (n k : ℕ) → (n ≡ 0 → ⊥) → unless t n k ≡ 0 → (t ≡ true) × (k ≡ 0)
passed true n k h e = (refl, e)
passed false n k h e = absurd (h e)

at_most : (t : Bool) (n k m : ℕ) → n ≤ m → k ≤ m → unless t n k ≤ m
at_most true n k m p q = q
at_most false n k m p q = p

line_small : (s : List ℕ) → first_bad s ≤ 6
unfolding first_bad
line_small s =
    at_most (line_ok Width s (start_of s 0)) 1 _ 6 (omega arith)
    (at_most (line_ok Height s (start_of s 1)) 2 _ 6 (omega arith)
    (at_most (line_ok Limit s (start_of s 2)) 3 _ 6 (omega arith)
    (at_most (line_ok Edge s (start_of s 3)) 4 _ 6 (omega arith)
    (at_most (line_ok Splits s (start_of s 4)) 5 _ 6 (omega arith)
    (at_most (leb (length s) (start_of s 5)) 6 0 6 (omega arith) (omega arith))))))

-- of a sheet all of whose lines are well formed, the fifth is
fifth : (s : List ℕ) → first_bad s ≡ 0 → line_ok Splits s (start_of s 4) ≡ true
unfolding first_bad
fifth s e =
    let p₀ = passed (line_ok Width s (start_of s 0)) 1 _ (λ z. omega arith) e in
    let p₁ = passed (line_ok Height s (start_of s 1)) 2 _ (λ z. omega arith) p₀.1 in
    let p₂ = passed (line_ok Limit s (start_of s 2)) 3 _ (λ z. omega arith) p₁.1 in
    let p₃ = passed (line_ok Edge s (start_of s 3)) 4 _ (λ z. omega arith) p₂.1 in
    (passed (line_ok Splits s (start_of s 4)) 5 _ (λ z. omega arith) p₃.1).0

pub record Whole (s : List ℕ) (w h limit : ℕ) (old : Bool) (from to : ℕ) : Type 0 where
  pub good : first_bad s ≡ 0
  pub width : w ≡ width_of s
  pub height : h ≡ height_of s
  pub limited : limit ≡ limit_of s
  pub aged : old ≡ old_of s
  pub ordered : from ≤ to
  pub inside : to ≤ length s
  pub short : to ≤ 4096
  pub digits : take (to - from) (drop from s) ≡ digits_of s
  pub two : binary (take (to - from) (drop from s)) ≡ true

splits_at : (s : List ℕ) → line_ok Splits s (start_of s 4) ≡ true → (start_of s 4 + length (line s 4) < length s) × (start_of s 4 + length (line s 4) < 4096)
    × (length splits_key ≤ length (line s 4)) × (binary (digits_of s) ≡ true)
unfolding line_ok splits_line
splits_at s e =
    let f = all_at (line_tests Splits s (start_of s 4)) 2 e in (
      ltb-true _ _ (all_at (line_tests Splits s (start_of s 4)) 0 e),
      ltb-true _ _ (all_at (line_tests Splits s (start_of s 4)) 1 e),
      key_fits splits_key (line s 4) (both_left (starts_with splits_key (line s 4)) (binary (digits_of s)) f),
      both_right (starts_with splits_key (line s 4)) (binary (digits_of s)) f,
    )

-- the answer where all five lines are well formed
pub whole_sheet_lem : (s : List ℕ) (p : Sheet) → read_of s ≡ Ok p → Whole s p.w p.h p.limit p.old p.from p.to
unfolding read_of
whole_sheet_lem s p e = go (eqb (first_bad s) 0) refl e where
  go : (t : Bool) → eqb (first_bad s) 0 ≡ t → unless t (malformed (first_bad s)) (Ok (whole_sheet s)) ≡ Ok p → Whole s p.w p.h p.limit p.old p.from p.to
  go true g z =
      let d = eqb-true (first_bad s) 0 g in
      let y : whole_sheet s ≡ p = cc in
      let f : start_of s 4 + length splits_key ≡ p.from = ap (λ (x : Sheet). x.from) y in
      let t : start_of s 4 + length (line s 4) ≡ p.to = ap (λ (x : Sheet). x.to) y in
      let a = splits_at s (fifth s d) in
      let q : take (p.to - p.from) (drop p.from s) ≡ digits_of s = rw (sym f, sym t) (digits_part s (start_of s 4) (length (line s 4)) (length splits_key) refl) in
      record {
        good = d;
        width = sym (ap (λ (x : Sheet). x.w) y);
        height = sym (ap (λ (x : Sheet). x.h) y);
        limited = sym (ap (λ (x : Sheet). x.limit) y);
        aged = sym (ap (λ (x : Sheet). x.old) y);
        ordered = omega arith;
        inside = omega arith;
        short = omega arith;
        digits = q;
        two = ap binary q ∙ a.3;
      }
  go false g z = absurd (let y : ◌≡◌ {A = ℕ} 0 1 = cc in omega arith)

-- and where one is not: n is its number
pub record Bad (s : List ℕ) (n : ℕ) : Type 0 where
  pub first : first_bad s ≡ n
  pub some : eqb (first_bad s) 0 ≡ false
  pub small : n ≤ 6

pub bad_line : (s : List ℕ) (m : Malformed) → read_of s ≡ Err m → Bad s m.0
unfolding read_of
bad_line s m e = go (eqb (first_bad s) 0) refl e where
  go : (t : Bool) → eqb (first_bad s) 0 ≡ t → unless t (malformed (first_bad s)) (Ok (whole_sheet s)) ≡ Err m → Bad s m.0
  go true g z = absurd (let y : ◌≡◌ {A = ℕ} 0 1 = cc in omega arith)
  go false g z =
      let y : record { 0 = first_bad s } ≡ m = cc in
      let q : first_bad s ≡ m.0 = ap (λ (x : Malformed). x.0) y in record { first = q; some = g; small = omega (arith, line_small s) }
