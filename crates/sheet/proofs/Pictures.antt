-- A picture of a sheet: its roots, and its digits as bits.
--     count_roots    how many roots it has
--     values_bits    the digits, put as bits, are their values
-- Assumes nothing.
use mathlib.Core.Bool.{true}
use mathlib.Core.List.{List, [], ◌∷◌}
use mathlib.Core.Path.{◌≡◌, refl, sym, ap, ap₂, ◌∙◌}
use Prim.Native.Nat.{ℕ, zero, suc, ◌-◌, ◌*◌, ◌/◌, ◌%◌, ◌≤◌}
use native.Mathlib.Nat.{mul-le-mul_right}
use native.Mathlib.Omega.{arith}
use lib.ListN.{length, get_or, length-map}
use Rattle.bits.specs.Bits.{bits_from, with_bits}
use Rattle.bits.proofs.Laws.{bits_back}
use Rattle.laws.specs.Index.{tabulate}
use Rattle.laws.proofs.Tabulate.{is_tabulate}
use Rattle.def.specs.Picture.{roots_along, root_count}
use Rattle.sheet_lines.specs.Lines.{binary}
use Rattle.sheet_lines.proofs.Reading.{byte_at}
use Rattle.split.specs.Picture.{across, roots}
use Rattle.sheet.specs.Descent.{values_of}
use Rattle.sheet.specs.Taken.{Sides}

pub count_roots : (w h : ℕ) → Sides w h → (root_count w h ≡ roots (w / 4) (h / 4)) × (root_count w h ≤ 16)
count_roots w h s =
    let a : roots_along w ≡ across (w / 4) = omega arith in
    let b : roots_along h ≡ across (h / 4) = omega arith in
    let m : root_count w h ≤ 4 * roots_along h = mul-le-mul_right _ (omega arith) in
    (ap₂ ◌*◌ a b, omega arith)

-- ---- the digits as bits

value_at : (l : List ℕ) (i : ℕ) → get_or (values_of l) i 0 ≡ get_or l i 0 - 48
value_at [] i = refl
value_at (d ∷ l) zero = refl
value_at (d ∷ l) (suc i) = value_at l i

-- the low bit of 48 and 49
low : (d : ℕ) → 48 ≤ d → d ≤ 49 → d - 48 ≡ d % 2
low d p q = omega arith

module _ (digits : List ℕ) (two : binary digits ≡ true) where
  abbrev pub low_bit : ℕ → ℕ
  low_bit i = get_or digits i 0 % 2

  values : values_of digits ≡ tabulate (length digits) low_bit
  values =
      is_tabulate low_bit (length digits) (values_of digits) 0 (length-map digits (λ (d : ℕ). d - 48))
      (λ i l. let b = byte_at 48 49 digits i l two in value_at digits i ∙ low (get_or digits i 0) b.least b.most)

  pub values_bits : (s : List ℕ) → length digits ≤ 8 * length s → bits_from (with_bits s 0 low_bit (length digits)) 0 (length digits - 0) ≡ values_of digits
  values_bits s l =
      let e : length digits - 0 ≡ length digits = omega arith in
      ap (bits_from (with_bits s 0 low_bit (length digits)) 0) e ∙ bits_back s 0 low_bit (λ i. omega arith) (length digits) (omega arith) ∙ sym values
