-- Lengths of colour, by the format.
--     in_order, at_most    what bounds a length bounds it in both formats
--     none_before    above a picture's first row there is nothing
-- Assumes nothing.
use Prim.Native.Nat.{ℕ, ◌/◌, ◌≤◌}
use mathlib.Core.Path.{◌≡◌, refl}
use native.Mathlib.Nat.{mul-zero}
use native.Mathlib.Omega.{arith}
use Rattle.def.specs.Formats.{in_format}
use Rattle.def.specs.declared.Format.{Format}
use Rattle.def.specs.declared.Format.TheVariants.{Grey, Colour}
use Rattle.df_check.specs.Checks.{colour_length}

pub in_order : (f : Format) (a b : ℕ) → a ≤ b → in_format f a ≤ in_format f b
in_order Grey a b l = omega arith
in_order Colour a b l = l

pub at_most : (f : Format) (a b : ℕ) → a ≤ b → in_format f a ≤ b
at_most Grey a b l = omega arith
at_most Colour a b l = l

pub none_before : (f : Format) (w : ℕ) → colour_length f w 0 ≡ 0
none_before Grey w = refl
none_before Colour w = mul-zero (w / 2)
