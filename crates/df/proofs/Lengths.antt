-- Lengths of w columns and r rows of units, in samples as the checks have them and in units as the passes do.
-- Assumes nothing.
use Prim.Native.Nat.{ℕ, ◌*◌, ◌/◌, ◌%◌}
use mathlib.Core.Path.{◌≡◌, ap, ◌∙◌}
use native.Mathlib.Nat.{mul_comm, mul_assoc}
use native.Mathlib.Omega.{arith}
use Rattle.def.specs.Picture.{luma_length, chroma_length, unit_count}
use Rattle.def.specs.declared.Component.{Component}
use Rattle.def.specs.declared.Component.TheVariants.{Luma, Chroma}
use Rattle.df_rules.specs.Places.{unit_side}
use Rattle.bands_rules.specs.Bands.{places_of}

module _ (w r : ℕ) (whole : w % 4 ≡ 0) where
  pub luma_places : luma_length w (4 * r) ≡ places_of Luma (w / 4) r
  luma_places = let a : w ≡ 4 * (w / 4) = omega arith in mul_comm w (4 * r) ∙ ap (λ (n : ℕ). 4 * r * n) a

  pub chroma_places : chroma_length w (4 * r) ≡ places_of Chroma (w / 4) r
  chroma_places =
      let a : w / 2 ≡ 2 * (w / 4) = omega arith in
      let b : 4 * r / 2 ≡ 2 * r = omega arith in
      mul_comm (w / 2) (4 * r / 2) ∙ (λ i. b i * a i)

  pub unit_places : unit_count w (4 * r) ≡ r * (w / 4)
  unit_places = let b : 4 * r / 4 ≡ r = omega arith in mul_comm (w / 4) (4 * r / 4) ∙ ap (λ (n : ℕ). n * (w / 4)) b

-- samples of a row of units
abbrev pub step_of : Component → ℕ → ℕ
step_of c w = unit_side c * (unit_side c * w)

pub places_step : (c : Component) (w n : ℕ) → places_of c w n ≡ n * step_of c w
places_step c w n = ap (λ (z : ℕ). z * (unit_side c * w)) (mul_comm (unit_side c) n) ∙ mul_assoc n (unit_side c) (unit_side c * w)
