-- Zeros that are put one after the other, and bits that are tested so.
-- Assumes nothing.
use mathlib.Core.Bool.{Bool, true, false}
use mathlib.Core.List.{List}
use mathlib.Core.Path.{◌≡◌, sym, ap, ◌∙◌}
use Prim.Native.Nat.{ℕ, ◌+◌, ◌-◌, ◌≤◌, ◌<◌}
use native.Mathlib.Omega.{arith}
use borrow.Author.Tests.{eq-eqb, ne_eqb}
use lib.Dec.{eqb}
use Rattle.bits.specs.Bits.{bit_at}
use Rattle.laws.specs.Scan.{all_below}
use Rattle.laws.proofs.Scans.{scan_none, scan_more, scan_stop}
use Rattle.pack_rules.specs.Form.{zeros_ok}

-- the bits of src from place p on
module _ (src : List ℕ) (p : ℕ) where
  abbrev pub is_zero : ℕ → Bool
  is_zero i = eqb (bit_at src (p + i)) 0

  pub zeros_none : all_below is_zero (p - p) ≡ true
  zeros_none = let e : p - p ≡ 0 = omega arith in ap (all_below is_zero) e ∙ scan_none is_zero

  module _ (at : ℕ) (l : p ≤ at) where
    here : p + (at - p) ≡ at
    here = omega arith

    pub zeros_on : all_below is_zero (at - p) ≡ true → bit_at src at ≡ 0 → all_below is_zero (at + 1 - p) ≡ true
    zeros_on a b =
        let e : at + 1 - p ≡ at - p + 1 = omega arith in
        ap (all_below is_zero) e ∙ scan_more is_zero (at - p) a (eq-eqb _ _ (ap (bit_at src) here ∙ b))

    pub zeros_no : (q : ℕ) → at < q → (bit_at src at ≡ 0 → ⊥) → false ≡ zeros_ok src p q
    unfolding zeros_ok
    zeros_no q m b = sym (scan_stop is_zero (q - p) (at - p) (omega arith) (ne_eqb _ _ (λ e. b (sym (ap (bit_at src) here) ∙ e))))

  pub zeros_all : (at q : ℕ) → at - p ≡ q - p → all_below is_zero (at - p) ≡ true → true ≡ zeros_ok src p q
  unfolding zeros_ok
  zeros_all at q e a = sym (ap (all_below is_zero) (sym e) ∙ a)
