-- The numbers of a header: in decimal, without leading zeros, and two of them with a colon between.
-- `decimal_by` is the listing's, `value_from` and `between` are the sheet's.
-- Assumes nothing: these are definitions.
use Rattle.std.specs.Prelude.{ℕ, ◌+◌, Bool, ◌&&◌, List, ◌∷◌, ◌++◌, leb, eqb, length, drop, get_or}
use Rattle.laws.specs.Call.{all_of}
use Rattle.sheet_lines.specs.Lines.{digit_tests, value_from}
use Rattle.sheet.specs.Text.{decimal_by}
use Rattle.y4m_rules.specs.Words.{colon_of}

-- ---- written

-- a number below 100,000
abbrev pub number : ℕ → List ℕ
number n = decimal_by 5 n

-- 25:1
abbrev pub ratio : ℕ → ℕ → List ℕ
ratio n m = number n ++ (58 ∷ number m)

-- ---- read

-- one to five digits, without leading zeros
abbrev pub number_tests : List ℕ → List Bool
number_tests l = digit_tests 5 l

unfoldable pub is_number : List ℕ → Bool
is_number l = all_of (number_tests l)

abbrev pub value_of : List ℕ → ℕ
value_of l = value_from 0 l

-- from 1 to 65,535
abbrev pub in_range : ℕ → Bool
in_range n = leb 1 n && leb n 65535

unfoldable pub is_term : List ℕ → Bool
is_term l = is_number l && in_range (value_of l)

-- what stands after the colon
abbrev pub after_colon : List ℕ → List ℕ
after_colon l = drop (length (colon_of l) + 1) l

-- two such numbers, with a colon between
unfoldable pub is_ratio : List ℕ → Bool
is_ratio l = is_term (colon_of l) && (eqb (get_or l (length (colon_of l)) 0) 58 && is_term (after_colon l))

unfoldable pub upper : List ℕ → ℕ
upper l = value_of (colon_of l)

unfoldable pub lower : List ℕ → ℕ
lower l = value_of (after_colon l)
