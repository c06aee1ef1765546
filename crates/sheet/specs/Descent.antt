-- The walk of a picture by the digits of its sheet: the descent that the compact form has, over the digits as numbers.
-- Assumes nothing: these are definitions.
use Rattle.std.specs.Prelude.{List, map, ℕ, ◌-◌, eqb}
use Rattle.def.specs.Refusals.{number_of}
use Rattle.def.specs.declared.Refusal.{Refusal}
use Rattle.def.specs.declared.Refusal.TheVariants.{Sheet}
use Rattle.laws.specs.Index.{pick}
use Rattle.marks_rules.specs.Descent.{Descent}
use Rattle.marks_rules.specs.Pictures.{upto}
use Rattle.split.specs.Picture.{roots}

-- a digit is a byte, 48 or 49
abbrev pub values_of : List ℕ → List ℕ
values_of digits = map (λ (d : ℕ). d - 48) digits

abbrev pub picture_descent : (w h : ℕ) → List ℕ → Descent
picture_descent w h digits = upto w h (values_of digits) (roots w h)

-- digits that run out are 16 in bits, and 12 in a sheet
abbrev pub as_sheet : Refusal → Refusal
as_sheet r = pick (eqb (number_of r) 16) Sheet r
