-- Laws of the contracts' form, stated once for every call.
--     one_outcome    no second outcome satisfies a contract of the form `Gives`
--     stops, goes_on    a return at, or past, a check `if !ok(..) { return r; }` in a row of `unless`
--     all_at    each test of a list that holds
--     all_fails    a list one of whose tests fails
--     one_of    of a list of equations one of which holds, each its own case
use mathlib.Core.Path.{◌≡◌, refl, sym, ◌∙◌}
use mathlib.Core.Bool.{Bool, true, false, not, ◌&&◌, ◌||◌}
use mathlib.Core.List.{List, [], ◌∷◌}
use Prim.Native.Nat.{ℕ, zero, suc}
use native.Mathlib.Omega.{arith}
use lib.ListN.{get_or}
use borrow.Author.Tests.{not-true, not-false, eqb-true}
use lib.Dec.{eqb}
use Rattle.laws.specs.Call.{Gives, unless, all_from, all_of, any_from, any_of}
use Rattle.laws.proofs.Bools.{both_left, both_right, and_false}

pub one_outcome : {I O : Type 0} (f : I → O) (i : I) (a b : O) → Gives f i a → Gives f i b → a ≡ b
one_outcome f i a b p q = p ∙ sym q

-- b is what the code computed, and t what the rule tests
pub stops : {A : Type 0} (b t : Bool) (r k : A) → b ≡ t → not b ≡ true → r ≡ unless t r k
stops b t r k e n = rw (sym e ∙ not-true b n)

pub goes_on : {A : Type 0} (b t : Bool) (r k x : A) → b ≡ t → not b ≡ false → x ≡ k → x ≡ unless t r k
goes_on b t r k x e n p = rw (sym e ∙ not-false b n) p

from_first : (a : Bool) (bs : List Bool) → all_from a bs ≡ true → a ≡ true
from_first a [] e = e
from_first a (b ∷ bs) e = both_left a b (from_first (a && b) bs e)

from_rest : (a : Bool) (bs : List Bool) (i : ℕ) → all_from a bs ≡ true → get_or bs i true ≡ true
from_rest a [] i e = refl
from_rest a (b ∷ bs) zero e = both_right a b (from_first (a && b) bs e)
from_rest a (b ∷ bs) (suc i) e = from_rest (a && b) bs i e

-- each test of a list that holds
pub all_at : (bs : List Bool) (i : ℕ) → all_of bs ≡ true → get_or bs i true ≡ true
all_at [] i e = refl
all_at (b ∷ bs) zero e = from_first b bs e
all_at (b ∷ bs) (suc i) e = from_rest b bs i e

from_false : (a : Bool) (bs : List Bool) → a ≡ false → all_from a bs ≡ false
from_false a [] e = e
from_false a (b ∷ bs) e = from_false (a && b) bs (rw e)

from_fails : (a : Bool) (bs : List Bool) (i : ℕ) → get_or bs i true ≡ false → all_from a bs ≡ false
from_fails a [] i e = cc
from_fails a (b ∷ bs) zero e = from_false (a && b) bs (and_false a b e)
from_fails a (b ∷ bs) (suc i) e = from_fails (a && b) bs i e

-- a list one of whose tests fails
pub all_fails : (bs : List Bool) (i : ℕ) → get_or bs i true ≡ false → all_of bs ≡ false
all_fails [] i e = cc
all_fails (b ∷ bs) zero e = from_false b bs e
all_fails (b ∷ bs) (suc i) e = from_fails b bs i e

-- the same where the branch tells the test itself, as `lt-leb _ _ c.if1.taken` does
pub at_refusal : {A : Type 0} (t : Bool) (r k : A) → t ≡ false → r ≡ unless t r k
at_refusal t r k e = rw e

pub past_refusal : {A : Type 0} (t : Bool) (r k x : A) → t ≡ true → x ≡ k → x ≡ unless t r k
past_refusal t r k x e p = rw e p

-- P at each number of a list
abbrev pub AtEach : (ℕ → Type 0) → List ℕ → Type 0
AtEach P [] = Unit {0}
AtEach P (n ∷ ns) = P n × AtEach P ns

-- x is one of a list's numbers
abbrev pub is_one : ℕ → List ℕ → List Bool
is_one x [] = []
is_one x (n ∷ ns) = eqb x n ∷ is_one x ns

any_from_lem : (P : ℕ → Type 0) (x : ℕ) (a : Bool) (ns : List ℕ) → (a ≡ true → P x) → AtEach P ns → any_from a (is_one x ns) ≡ true → P x
any_from_lem P x a [] f h e = f e
any_from_lem P x a (n ∷ ns) f h e = any_from_lem P x (a || eqb x n) ns (or a f) h.1 e where
  or : (b : Bool) → (b ≡ true → P x) → (b || eqb x n) ≡ true → P x
  or true g q = g refl
  or false g q = rw (eqb-true x n q) h.0

-- what holds at each number of a list holds of one of them
pub one_of : (P : ℕ → Type 0) (x : ℕ) (ns : List ℕ) → AtEach P ns → any_of (is_one x ns) ≡ true → P x
one_of P x [] h e = absurd (let z : ◌≡◌ {A = ℕ} 0 1 = cc in omega arith)
one_of P x (n ∷ ns) h e = any_from_lem P x (eqb x n) ns (λ q. rw (eqb-true x n q) h.0) h.1 e
