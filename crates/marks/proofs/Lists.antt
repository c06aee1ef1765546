-- Marks that are listed: none, one, and some after others.
-- Assumes nothing.
use mathlib.Core.List.{List, [], ◌∷◌, ◌++◌}
use mathlib.Core.Path.{◌≡◌, refl, sym, ap, ap₂, ◌∙◌, subst}
use Prim.Native.Nat.{ℕ, ◌+◌}
use native.Mathlib.Nat.{add-zero}
use native.Mathlib.Omega.{arith}
use lib.ListN.{length, length-append, length-map}
use lib.Seq.{sets, length-sets}
use Rattle.split.proofs.Stores.{sets_append}
use Rattle.marks_rules.specs.Marks.{Mark}
use Rattle.marks.specs.Stored.{mark_number, numbers, Listed}

pub numbers_append : (l k : List Mark) → numbers (l ++ k) ≡ numbers l ++ numbers k
numbers_append [] k = refl
numbers_append (m ∷ l) k = ap (λ (r : List ℕ). mark_number m ∷ r) (numbers_append l k)

pub sets_then : (l k : List Mark) (out : List ℕ) (n : ℕ) → sets (sets out n (numbers l)) (n + length l) (numbers k) ≡ sets out n (numbers (l ++ k))
sets_then l k out n =
    ap (λ (i : ℕ). sets (sets out n (numbers l)) (n + i) (numbers k)) (sym (length-map l mark_number))
    ∙ sets_append (numbers l) (numbers k) out n ∙ ap (sets out n) (sym (numbers_append l k))

pub listed_none : (out : List ℕ) (n : ℕ) → Listed [] out n out n
listed_none out n = record { count = sym (add-zero n); stored = refl }

pub listed_as : {l k : List Mark} {out out₁ : List ℕ} {n r : ℕ} → l ≡ k → Listed k out n out₁ r → Listed l out n out₁ r
listed_as {out = out} {out₁ = out₁} {n = n} {r = r} e h = subst (λ (z : List Mark). Listed z out n out₁ r) (sym e) h

pub listed_then : {l k : List Mark} {out out₁ out₂ : List ℕ} {n m r : ℕ} → Listed l out n out₁ m → Listed k out₁ m out₂ r → Listed (l ++ k) out n out₂ r
listed_then {l} {k} {out} {out₁} {out₂} {n} {m} {r} d e =
    record {
      count = omega (arith, d.count, e.count, length-append l k);
      stored = e.stored ∙ ap₂ (λ (z : List ℕ) (i : ℕ). sets z i (numbers k)) d.stored d.count ∙ sets_then l k out n;
    }

pub listed_long : {l : List Mark} {out out₁ : List ℕ} {n r : ℕ} → Listed l out n out₁ r → length out₁ ≡ length out
listed_long {l} {out} {out₁} {n} {r} d = ap length d.stored ∙ length-sets out n (numbers l)
