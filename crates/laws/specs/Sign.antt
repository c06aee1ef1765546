-- A whole number by its sign and its magnitude: the code counts in magnitudes, and the rules in whole numbers.
-- Assumes nothing: these are definitions.
use Rattle.std.specs.Prelude.{ℕ, ◌+◌, ◌-◌, Bool, true, false, ℤ, pos, neg_ℤ}

-- -m where the sign holds, and m where not
abbrev pub sg : Bool → ℕ → ℤ
sg true m = neg_ℤ (pos m)
sg false m = pos m

-- how far apart p and n lie
abbrev pub gap_n : ℕ → ℕ → ℕ
gap_n p n = (p - n) + (n - p)
