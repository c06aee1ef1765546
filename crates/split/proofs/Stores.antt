-- What the walk leaves in the list: nothing, a leaf, and one walk's leaves after another's.
-- Assumes nothing.
use Rattle.std.specs.Prelude.{Ok, Err, Result}
use mathlib.Core.List.{List, [], ◌∷◌, ◌++◌}
use mathlib.Core.Path.{◌≡◌, refl, sym, ap, ap₂, ◌∙◌, subst}
use Prim.Native.Nat.{ℕ, suc, ◌+◌, ◌*◌, ◌≤◌, ◌<◌}
use native.Mathlib.Nat.{add-zero, zero-add}
use native.Mathlib.Numerals.{add-one, add-two}
use native.Mathlib.Omega.{arith}
use lib.ListN.{length, get_or, set, take, drop, length-append, length-take}
use lib.Seq.{sets, sets-eq, take_at, take-suc}
use Rattle.def.specs.Answers.{Answer}
use Rattle.def.specs.declared.Refusal.{Refusal}
use Rattle.laws.specs.Orders.{each}
use Rattle.laws.proofs.Orders.{each_append}
use Rattle.split.specs.Stored.{leaf_numbers, counted, Stored}
use Rattle.split.specs.Walk.{Leaf, Walk, met, nothing, and_then}
use Rattle.split.proofs.Walks.{onward_done}

pub sets_append : (vs ws l : List ℕ) (n : ℕ) → sets (sets l n vs) (n + length vs) ws ≡ sets l n (vs ++ ws)
sets_append [] ws l n = rw add-zero
sets_append (v ∷ vs) ws l n =
    let e : n + suc (length vs) ≡ suc n + length vs = omega arith in
    rw e (sets_append vs ws (set l n v) (suc n))

-- what was stored first is read back
pub take_sets : (vs l : List ℕ) (n : ℕ) → length vs ≡ n → n ≤ length l → take n (sets l 0 vs) ≡ vs
take_sets vs l n e h = ap (take n) (sets-eq vs l 0 (omega arith)) ∙ take_at vs _ n e

-- one number more of a list that is copied
pub copy_more : (l out : List ℕ) (k : ℕ) → k < length l → set (sets out 0 (take k l)) k (get_or l k 0) ≡ sets out 0 (take (k + 1) l)
copy_more l out k h =
    let e : length (take k l) ≡ k = length-take k l ∙ omega arith in
    sym (ap (λ (n : ℕ). sets out 0 (take n l)) (add-one k) ∙ ap (sets out 0) (take-suc l k 0 h) ∙ sym (sets_append (take k l) (get_or l k 0 ∷ []) out 0)
    ∙ ap (λ (n : ℕ). set (sets out 0 (take k l)) n (get_or l k 0)) (zero-add (length (take k l)) ∙ e))

-- what a copy of a list's first k numbers leaves in another
pub copied : (l out : List ℕ) (k : ℕ) → k ≤ length l → k ≤ length out → take k l ++ drop k out ≡ sets out 0 (take k l)
copied l out k h r =
    let e : length (take k l) ≡ k = length-take k l ∙ omega arith in
    let z : 0 + length (take k l) ≡ k = zero-add (length (take k l)) ∙ e in
    sym (sets-eq (take k l) out 0 (omega (arith, z)) ∙ ap (λ (n : ℕ). take k l ++ drop n out) z)

pub thrice : (l : List Leaf) → length (each leaf_numbers l) ≡ 3 * length l
unfolding each
thrice [] = refl
thrice (p ∷ l) = let i = thrice l in omega arith

pub stored_nothing : (out : List ℕ) (n : ℕ) → Stored nothing out n out (Ok n)
unfolding each
stored_nothing out n = record { answer = ap Ok (sym (add-zero n)); stored = refl }

pub stored_refused : (r : Refusal) (out : List ℕ) (n : ℕ) → Stored (met [] (Err r)) out n out (Err r)
unfolding each
stored_refused r out n = record { answer = refl; stored = refl }

pub stored_one : (p : Leaf) (out : List ℕ) (n a b c : ℕ) → a ≡ 4 * p.x → b ≡ 4 * p.y → c ≡ 4 * p.side
    → Stored (met (p ∷ []) (Ok tt)) out n (set (set (set out (3 * n) a) (3 * n + 1) b) (3 * n + 2) c) (Ok (n + 1))
unfolding each
stored_one p out n a b c e f g = record { answer = refl; stored = rw (e, f, g, add-one (3 * n), add-two (3 * n)) }

pub stored_as : {v w : Walk} {out out₁ : List ℕ} {n : ℕ} {r : Result ℕ Refusal} → v ≡ w → Stored w out n out₁ r → Stored v out n out₁ r
stored_as {out = out} {out₁ = out₁} {n = n} {r = r} e h = subst (λ (u : Walk). Stored u out n out₁ r) (sym e) h

-- ---- what an answer tells of its walk

pub counted_done : (m n : ℕ) (a : Answer) → Ok m ≡ counted n a → (a ≡ Ok tt) × (m ≡ n)
counted_done m n (Ok _) e = (refl, (cc))
counted_done m n (Err r) e = absurd (let z : ◌≡◌ {A = ℕ} 0 1 = cc in omega arith)

pub counted_refused : (r : Refusal) (n : ℕ) (a : Answer) → Err r ≡ counted n a → a ≡ Err r
counted_refused r n (Ok _) e = absurd (let z : ◌≡◌ {A = ℕ} 0 1 = cc in omega arith)
counted_refused r n (Err q) e = let z : r ≡ q = cc in ap Err (sym z)

module _ {v : Walk} {out : List ℕ} {n : ℕ} {out₁ : List ℕ} {r : Result ℕ Refusal} (d : Stored v out n out₁ r) where
  pub stored_done : (m : ℕ) → r ≡ Ok m → (v.answer ≡ Ok tt) × (m ≡ n + length v.list)
  stored_done m e = counted_done m _ v.answer (sym e ∙ d.answer)

  pub stored_stop : (q : Refusal) → r ≡ Err q → v.answer ≡ Err q
  stored_stop q e = counted_refused q _ v.answer (sym e ∙ d.answer)

-- ---- one walk after another

pub stored_then : {v w : Walk} {out out₁ out₂ : List ℕ} {n m : ℕ} {r : Result ℕ Refusal}
    → Stored v out n out₁ (Ok m) → Stored w out₁ m out₂ r → Stored (and_then v w) out n out₂ r
stored_then {v} {w} {out} {out₁} {out₂} {n} {m} {r} d e =
    let k = stored_done d m refl in
    let q : 3 * m ≡ 3 * n + length (each leaf_numbers v.list) = omega (arith, k.1, thrice v.list) in
    let z : m + length w.list ≡ n + length (v.list ++ w.list) = omega (arith, k.1, length-append v.list w.list) in
    rw (onward_done v.answer v.list w k.0)
    (record {
      answer = e.answer ∙ ap (λ (i : ℕ). counted i w.answer) z;
      stored = e.stored ∙ ap₂ (λ (l : List ℕ) (i : ℕ). sets l i (each leaf_numbers w.list)) d.stored q
          ∙ sets_append (each leaf_numbers v.list) (each leaf_numbers w.list) out (3 * n)
          ∙ ap (sets out (3 * n)) (sym (each_append leaf_numbers v.list w.list));
    })
