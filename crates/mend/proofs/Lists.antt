-- Changes that are listed, and marks that are put, one after the other.
-- Assumes nothing.
use mathlib.Core.Bool.{Bool, true, false}
use mathlib.Core.List.{List, [], ◌∷◌, ◌++◌, append_assoc, append-nil}
use mathlib.Core.Path.{◌≡◌, refl, sym, ap, ap₂, ◌∙◌, subst}
use Prim.Native.Nat.{ℕ, ◌+◌, ◌*◌, ◌/◌, ◌%◌, ◌≤◌, ◌<◌}
use native.Mathlib.Nat.{add-zero}
use native.Mathlib.Numerals.{add-one, add-two, add-three, add-four}
use native.Mathlib.Omega.{arith}
use borrow.Author.Tests.{eq-eqb, ne_eqb}
use borrow.Rule.Slice.PartMut.{put_mid, post_of}
use lib.Dec.{eqb}
use lib.ListN.{length, get_or, set, take, length-append}
use lib.Seq.{sets, length-sets, length-take-le, take_at, take_all, take-suc, take-suc-set}
use Rattle.laws.specs.Index.{pick}
use Rattle.laws.specs.Orders.{run, each}
use Rattle.laws.proofs.Orders.{run_append, each_append}
use Rattle.marks.specs.Stored.{mark_from, marks_in}
use Rattle.marks.proofs.Callers.{marks_more}
use Rattle.marks_rules.specs.Marks.{Mark, put_all}
use Rattle.marks_rules.specs.Pictures.{joined}
use Rattle.split.proofs.Stores.{sets_append}
use Rattle.mend.specs.Changes.{Change, change_of, changed, changes_in, change_numbers, Listed}

pub fives : (l : List Change) → length (each change_numbers l) ≡ 5 * length l
unfolding each
fives [] = refl
fives (c ∷ l) = let i = fives l in omega arith

pub listed_none : (out : List ℕ) (n : ℕ) → Listed [] out n out n
unfolding each
listed_none out n = record { count = sym (add-zero n); stored = refl }

pub listed_as : {l k : List Change} {out out₁ : List ℕ} {n r : ℕ} → l ≡ k → Listed k out n out₁ r → Listed l out n out₁ r
listed_as {out = out} {out₁ = out₁} {n = n} {r = r} e h = subst (λ (z : List Change). Listed z out n out₁ r) (sym e) h

pub listed_then : {l k : List Change} {out out₁ out₂ : List ℕ} {n m r : ℕ} → Listed l out n out₁ m → Listed k out₁ m out₂ r → Listed (l ++ k) out n out₂ r
listed_then {l} {k} {out} {out₁} {out₂} {n} {m} {r} d e =
    let q : 5 * m ≡ 5 * n + length (each change_numbers l) = omega (arith, d.count, fives l) in
    record {
      count = omega (arith, d.count, e.count, length-append l k);
      stored = e.stored ∙ ap₂ (λ (z : List ℕ) (i : ℕ). sets z i (each change_numbers k)) d.stored q
          ∙ sets_append (each change_numbers l) (each change_numbers k) out (5 * n)
          ∙ ap (sets out (5 * n)) (sym (each_append change_numbers l k));
    }

pub listed_long : {l : List Change} {out out₁ : List ℕ} {n r : ℕ} → Listed l out n out₁ r → length out₁ ≡ length out
listed_long {l} {out} {out₁} {n} {r} d = ap length d.stored ∙ length-sets out (5 * n) (each change_numbers l)

-- no change, and one
pub change_none : (i p old new : ℕ) → old ≡ new → change_of i p old new ≡ []
change_none i p old new e = rw (eq-eqb old new e)

pub change_one : (i p old new : ℕ) → (old ≡ new → ⊥) → change_of i p old new ≡ record { root = i; level = p / 256; place = p % 256; old = old; new = new } ∷ []
change_one i p old new e = rw (ne_eqb old new e)

pub listed_one : (c : Change) (out : List ℕ) (n : ℕ)
    → Listed (c ∷ []) out n (set (set (set (set (set out (5 * n) c.root) (5 * n + 1) c.level) (5 * n + 2) c.place) (5 * n + 3) c.old) (5 * n + 4) c.new) (n + 1)
unfolding each
listed_one c out n = record { count = refl; stored = rw (add-one (5 * n), add-two (5 * n), add-three (5 * n), add-four (5 * n)) }

-- ---- the loop over a list's marks

pub change_few : (i p old new : ℕ) → length (change_of i p old new) ≤ 1
change_few i p old new = by (eqb old new) where
  by : (t : Bool) → length {A = Change} (pick t [] (record { root = i; level = p / 256; place = p % 256; old = old; new = new } ∷ [])) ≤ 1
  by true = omega arith
  by false = omega arith

pub changes_few : (b : List ℕ) (i : ℕ) (l : List Mark) → length (changes_in b i l) ≤ length l
unfolding each
changes_few b i [] = omega arith
changes_few b i (m ∷ l) =
    let a = changes_few b i l in
    let c = change_few i m.place (get_or b m.place 0) m.byte in
    omega (arith, length-append (changed b i m) (changes_in b i l))

module _ (b : List ℕ) (i : ℕ) (list : List ℕ) where
  pub changes_none : changes_in b i (marks_in list 0) ≡ []
  unfolding each
  changes_none = refl

  pub changes_more : (j : ℕ) → j < length list → changes_in b i (marks_in list (j + 1)) ≡ changes_in b i (marks_in list j) ++ changed b i (mark_from (get_or list j 0))
  unfolding each
  changes_more j l =
      ap (changes_in b i) (marks_more list j l) ∙ each_append (changed b i) (marks_in list j) (mark_from (get_or list j 0) ∷ [])
      ∙ ap (λ (z : List Change). changes_in b i (marks_in list j) ++ z) (append-nil (changed b i (mark_from (get_or list j 0))))

pub put_more : (list s : List ℕ) (j : ℕ) → j < length list
    → set (put_all (marks_in list j) s) (mark_from (get_or list j 0)).place (mark_from (get_or list j 0)).byte ≡ put_all (marks_in list (j + 1)) s
unfolding put_all run
put_more list s j l =
    sym (ap (λ (z : List Mark). put_all z s) (marks_more list j l)
    ∙ run_append (λ (m : Mark) (t : List ℕ). set t m.place m.byte) (marks_in list j) (mark_from (get_or list j 0) ∷ []) s)

-- ---- roots, one after the other

pub roots_more : (f : ℕ → List ℕ) (map ys : List ℕ) (i k : ℕ) → 1024 * i + 1024 ≤ length map → length ys ≡ 1024 → take (1024 * i) map ≡ joined f i → ys ≡ f i
    → take (1024 * (i + 1)) (put_mid (1024 * i) k map ys) ≡ joined f (i + 1)
unfolding joined
roots_more f map ys i k room long e q =
    let a = take (1024 * i) map in
    let l = length-take-le (1024 * i) map (omega arith) in
    let n : length (a ++ ys) ≡ 1024 * (i + 1) = length-append a ys ∙ omega arith in
    ap (take (1024 * (i + 1))) (sym (append_assoc a ys (post_of (1024 * i) k map))) ∙ take_at (a ++ ys) (post_of (1024 * i) k map) (1024 * (i + 1)) n
    ∙ ap₂ (λ (x y : List ℕ). x ++ y) e q ∙ ap (joined f) (sym (add-one i))

-- ---- bytes that are copied

pub copy_more : (s out : List ℕ) (i : ℕ) → i < length s → i < length out → take i out ≡ take i s → take (i + 1) (set out i (get_or s i 0)) ≡ take (i + 1) s
copy_more s out i l m e =
    ap (λ (n : ℕ). take n (set out i (get_or s i 0))) (add-one i) ∙ take-suc-set out i (get_or s i 0) m ∙ ap (λ (z : List ℕ). z ++ (get_or s i 0 ∷ [])) e
    ∙ sym (ap (λ (n : ℕ). take n s) (add-one i) ∙ take-suc s i 0 l)

-- once all are copied
pub copy_all : (s out : List ℕ) (i : ℕ) → length out ≡ length s → length s ≤ i → take i out ≡ take i s → out ≡ s
copy_all s out i e l q = sym (take_all i out (omega (arith, e, l))) ∙ q ∙ take_all i s l
