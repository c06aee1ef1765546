-- One step of a search, one digit more, and a number by where it starts and stops.
-- Assumes nothing.
use mathlib.Core.Path.{◌≡◌, refl, sym, ap, ◌∙◌}
use mathlib.Core.Bool.{Bool, true, false}
use mathlib.Core.List.{List}
use Prim.Native.Nat.{ℕ, suc, ◌+◌, ◌-◌, ◌*◌, ◌%◌, ◌<◌, ◌≤◌}
use native.Mathlib.Numerals.{add-one}
use native.Mathlib.Omega.{arith}
use lib.ListN.{length, get_or}
use borrow.Author.Tests.{lt-ltb, le-ltb, eq-eqb, ne_eqb}
use Rattle.laws.specs.Index.{pick}
use Rattle.cases.specs.Numbers.{number_byte, first, value_of, written, between, number_at}

module _ (wanted : Bool) (s : List ℕ) (n i : ℕ) (h : i < n) where
  one_more : n - i ≡ suc (n - (i + 1))
  one_more = omega arith

  pub first_here : number_byte (get_or s i 0) wanted ≡ true → first wanted s (n - i) i ≡ i
  unfolding first
  first_here e = ap (λ (k : ℕ). first wanted s k i) one_more ∙ ap (λ (b : Bool). pick b i (first wanted s (n - (i + 1)) (i + 1))) e

  pub first_on : number_byte (get_or s i 0) wanted ≡ false → first wanted s (n - i) i ≡ first wanted s (n - (i + 1)) (i + 1)
  unfolding first
  first_on e = ap (λ (k : ℕ). first wanted s k i) one_more ∙ ap (λ (b : Bool). pick b i (first wanted s (n - (i + 1)) (i + 1))) e

pub first_end : (wanted : Bool) (s : List ℕ) (n i : ℕ) → n ≤ i → first wanted s (n - i) i ≡ i
unfolding first
first_end wanted s n i h = let e : n - i ≡ 0 = omega arith in ap (λ (k : ℕ). first wanted s k i) e

pub value_none : (s : List ℕ) (from : ℕ) → 0 ≡ value_of s from 0
unfolding value_of
value_none s from = refl

pub value_more : (s : List ℕ) (from i v x : ℕ) → v ≡ value_of s from i → x ≡ get_or s (from + i) 0 → (10 * v + x % 48) % 1152921504606846976 ≡ value_of s from (i + 1)
unfolding value_of
value_more s from i v x e q = rw (e, q, add-one i) refl

-- ---- a number, by where it starts and stops

pub number_past : (s : List ℕ) (i : ℕ) → length s < i → written false 0 i ≡ number_at s i
unfolding number_at
number_past s i h = rw (lt-ltb (length s) i h)

module _ (s : List ℕ) (i start stop : ℕ) (h : i ≤ length s) (p : start ≡ first true s (length s - i) i) (q : stop ≡ first false s (length s - start) start) where
  number_is : number_at s i ≡ between s start stop
  unfolding number_at
  number_is =
      rw (le-ltb (length s) i h)
      (ap (λ (k : ℕ). between s k (first false s (length s - k) k)) (sym p) ∙ ap (between s start) (sym q))

  pub number_none : start ≡ stop → written false 0 stop ≡ number_at s i
  number_none e = sym (number_is ∙ rw (eq-eqb start stop e))

  pub number_below : (v : ℕ) → (start ≡ stop → ⊥) → get_or s start 0 ≡ 45 → v ≡ value_of s (start + 1) (stop - (start + 1)) → written true v stop ≡ number_at s i
  number_below v n e f = sym (number_is ∙ rw (ne_eqb start stop n, eq-eqb (get_or s start 0) 45 e) (ap (λ (k : ℕ). written true k stop) (sym f)))

  pub number_above : (v : ℕ) → (start ≡ stop → ⊥) → (get_or s start 0 ≡ 45 → ⊥) → v ≡ value_of s start (stop - start) → written false v stop ≡ number_at s i
  number_above v n e f = sym (number_is ∙ rw (ne_eqb start stop n, ne_eqb (get_or s start 0) 45 e) (ap (λ (k : ℕ). written false k stop) (sym f)))
