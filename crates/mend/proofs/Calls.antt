-- A root's bytes and changes as the code has them, and the outcome of `mend` by what its checks find.
-- Assumes nothing.
use Rattle.std.specs.Prelude.{Ok, Err, Result}
use mathlib.Core.Bool.{true}
use mathlib.Core.List.{List, [], ◌∷◌}
use mathlib.Core.Path.{◌≡◌, sym, ap, ap₂, ◌∙◌}
use Prim.Native.Nat.{ℕ, zero, suc, ◌+◌, ◌-◌, ◌*◌, ◌/◌, ◌≤◌}
use native.Mathlib.Nat.{zero-add}
use native.Mathlib.Numerals.{add-one}
use native.Mathlib.Omega.{arith}
use borrow.Author.Tests.{eqb-true}
use lib.Dec.{eqb}
use lib.ListN.{length, take, drop, length-append}
use Rattle.def.specs.Picture.{size_ok, root_count}
use Rattle.def.specs.declared.Refusal.{Refusal}
use Rattle.def.proofs.Sizes.{sized}
use Rattle.laws.proofs.Calls.{all_at}
use Rattle.laws.specs.Index.{pick}
use Rattle.marks.proofs.Callers.{Told, roots_told}
use Rattle.marks.specs.ListCall as list-call
use Rattle.marks.specs.Stored.{marks_in}
use Rattle.marks_rules.specs.Marks.{Mark, put_all, blocks_in}
use Rattle.marks_rules.specs.Mended.{mend_byte}
use Rattle.marks_rules.specs.Pictures.{joined}
use Rattle.marks_rules.proofs.Marks.{few}
use Rattle.split.proofs.Roots.{few_roots, roots_units}
use Rattle.split.specs.Picture.{roots, root_bytes, root_x, root_y}
use Rattle.mend.specs.Changes.{root_marks, mend_root, mend_map, changes_in, root_changes, changes_of, all_changes, Listed}
use Rattle.mend.specs.MendCall as mend-call
use Rattle.mend.specs.MendCall.{Mapped}
use Rattle.mend.proofs.Lists.{listed_as, listed_then, changes_few}

-- ---- the size

pub few_of : (w h : ℕ) → size_ok w h ≡ true → root_count w h ≤ 4096
few_of w h z = let s = sized w h z in few_roots w h s.wide s.high

pub count_units : (w h r : ℕ) → size_ok w h ≡ true → r ≡ pick (size_ok w h) (root_count w h) 0 → r ≡ roots (w / 4) (h / 4)
count_units w h r z e = roots_told w h r z e ∙ sym (roots_units (sized w h z))

pub bytes_of_lem : (s : List ℕ) (i : ℕ) → take (1024 * i + 1024 - 1024 * i) (drop (1024 * i) s) ≡ root_bytes s i
bytes_of_lem s i = let e : 1024 * i + 1024 - 1024 * i ≡ 1024 = omega arith in ap (λ (n : ℕ). take n (drop (1024 * i) s)) e

-- an answer that tells of marks is not a refusal
pub not_both : {A : Type 0} (r : Result ℕ Refusal) (n : ℕ) (q : Refusal) → r ≡ Ok n → r ≡ Err q → A
not_both r n q e f = absurd (let z : ◌≡◌ {A = ℕ} 0 1 = cc in omega arith)

-- ---- root i, by a list that has its marks

module _ (w h : ℕ) (s : List ℕ) (i : ℕ) {list : List ℕ} {n : ℕ} (t : Told (list-call.root_marks w h s i) list) (q : n ≡ length (list-call.root_marks w h s i)) where
  own : marks_in list n ≡ list-call.root_marks w h s i
  own = ap (marks_in list) q ∙ t.back

  pub root_mended : (o o' : List ℕ) → o ≡ take (1024 * i + 1024 - 1024 * i) (drop (1024 * i) s) → o' ≡ put_all (marks_in list n) o → o' ≡ mend_root s (w / 4) (h / 4) i
  root_mended o o' e f = f ∙ ap₂ put_all own (e ∙ bytes_of_lem s i)

  pub root_listed : {out out₁ : List ℕ} {m r : ℕ} → Listed (changes_in (take (1024 * i + 1024 - 1024 * i) (drop (1024 * i) s)) i (marks_in list n)) out m out₁ r
      → Listed (root_changes s (w / 4) (h / 4) i) out m out₁ r
  root_listed d = listed_as (sym (ap₂ (λ (b : List ℕ) (l : List Mark). changes_in b i l) (bytes_of_lem s i) own)) d

-- ---- one root after another

pub few_changes : (s : List ℕ) (w h n : ℕ) → length (changes_of s w h n) ≤ 85 * n
unfolding joined blocks_in
few_changes s w h zero = omega arith
few_changes s w h (suc n) =
    let a = few_changes s w h n in
    let f = mend_byte (root_bytes s n) w h in
    let b = few f w h 4 (root_x w n) (root_y w n) in
    let c = changes_few (root_bytes s n) n (root_marks s w h n) in
    omega (arith, length-append (changes_of s w h n) (root_changes s w h n))

pub listed_more : (s : List ℕ) (w h i : ℕ) {out out₁ out₂ : List ℕ} {m r : ℕ} → Listed (changes_of s w h i) out 0 out₁ m → Listed (root_changes s w h i) out₁ m out₂ r
    → Listed (changes_of s w h (i + 1)) out 0 out₂ r
unfolding joined
listed_more s w h i d e = rw (add-one i) (listed_then d e)

-- ---- the call

pub lengths_told : (w h splits out list : ℕ) → mend-call.lengths_ok w h splits out list ≡ true
    → (splits ≡ 1024 * root_count w h) × (out ≡ 1024 * root_count w h) × (list ≡ 425 * root_count w h)
unfolding mend-call.lengths_ok
lengths_told w h splits out list e =
    let l = eqb splits (1024 * root_count w h) ∷ eqb out (1024 * root_count w h) ∷ eqb list (425 * root_count w h) ∷ [] in
    (eqb-true _ _ (all_at l 0 e), eqb-true _ _ (all_at l 1 e), eqb-true _ _ (all_at l 2 e))

module _ (i : mend-call.Input) where
  pub mend_refused : (r : Refusal) → Err r ≡ mend-call.check i → record { reading = mend-call.reading_of (Err r); out = i.out; list = i.list } ≡ mend-call.outcome i
  unfolding mend-call.outcome
  mend_refused r e = rw (sym e)

  pub mend_done : (n : ℕ) (o l : List ℕ) → (Ok tt) ≡ mend-call.check i → o ≡ mend_map i.splits (i.w / 4) (i.h / 4)
      → Listed (all_changes i.splits (i.w / 4) (i.h / 4)) i.list 0 l n → record { reading = mend-call.reading_of (Ok n); out = o; list = l } ≡ mend-call.outcome i
  unfolding mend-call.outcome
  mend_done n o l e f d =
      rw (sym e)
      (λ k. record { reading = mend-call.reading_of (Ok ((d.count ∙ zero-add (length (all_changes i.splits (i.w / 4) (i.h / 4)))) k)); out = f k; list = d.stored k })
