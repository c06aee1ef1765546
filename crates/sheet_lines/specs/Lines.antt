-- The lines of a sheet: where each starts, what each has to be, the first that is not so, and what the five say.
-- Lines are counted from 0 here, and from 1 where their numbers are answered. A text is a list of bytes.
-- Assumes nothing: these are definitions.
use Rattle.std.specs.Prelude.{ℕ, zero, suc, ◌+◌, ◌-◌, ◌*◌, Bool, true, false, not, ◌&&◌, ◌||◌, List, [], ◌∷◌, leb, ltb, eqb, length, drop, get_or}
use Rattle.laws.specs.Call.{unless, all_of}
use Rattle.laws.specs.Index.{pick}
use Rattle.laws.specs.Scan.{all_in}
use Rattle.sheet_lines.specs.declared.Kind.{Kind}
use Rattle.sheet_lines.specs.declared.Kind.TheVariants.{Width, Height, Limit, Edge, Splits}
use Rattle.sheet_lines.specs.Words.{width_key, height_key, limit_key, own_edge, source_edge, splits_key}

-- ---- where lines start and end

-- the bytes before the first newline, or all
unfoldable pub line_of : List ℕ → List ℕ
line_of [] = []
line_of (b ∷ s) = pick (eqb b 10) [] (b ∷ line_of s)

-- the line that starts at a place, and the place after its newline
abbrev pub line_from : List ℕ → ℕ → List ℕ
line_from s at = line_of (drop at s)

abbrev pub next_line : List ℕ → ℕ → ℕ
next_line s at = at + length (line_from s at) + 1

-- where line n starts
unfoldable pub start_of : List ℕ → ℕ → ℕ
start_of s zero = 0
start_of s (suc n) = next_line s (start_of s n)

abbrev pub line : List ℕ → ℕ → List ℕ
line s n = line_from s (start_of s n)

-- ---- what a line has to be

-- a line begins with a key
unfoldable pub starts_with : List ℕ → List ℕ → Bool
starts_with [] l = true
starts_with (k ∷ key) [] = false
starts_with (k ∷ key) (b ∷ l) = eqb k b && starts_with key l

abbrev pub between : ℕ → ℕ → ℕ → Bool
between low high b = leb low b && leb b high

-- a number of one digit or more, up to `most`, without leading zeros
abbrev pub digit_tests : ℕ → List ℕ → List Bool
digit_tests most l = leb 1 (length l) ∷ leb (length l) most ∷ (eqb (length l) 1 || not (eqb (get_or l 0 0) 48)) ∷ all_in 0 (between 48 57) l ∷ []

-- of one to four
abbrev pub number_tests : List ℕ → List Bool
number_tests l = digit_tests 4 l

unfoldable pub is_number : List ℕ → Bool
is_number l = all_of (number_tests l)

-- what digits come to, after digits that came to v
unfoldable pub value_from : ℕ → List ℕ → ℕ
value_from v [] = v
value_from v (b ∷ l) = value_from (10 * v + (b - 48)) l

-- `width=N` and its like
unfoldable pub number_line : List ℕ → List ℕ → Bool
number_line key l = starts_with key l && is_number (drop (length key) l)

unfoldable pub number_after : List ℕ → List ℕ → ℕ
number_after key l = value_from 0 (drop (length key) l)

-- a whole line
unfoldable pub same_line : List ℕ → List ℕ → Bool
same_line key l = starts_with key l && eqb (length l) (length key)

unfoldable pub edge_line : List ℕ → Bool
edge_line l = same_line own_edge l || same_line source_edge l

-- 1 in an old sheet, whose V read table 0 on vertical edges
unfoldable pub old_edge : List ℕ → ℕ
old_edge l = pick (same_line source_edge l) 1 0

-- `splits=` and digits that are 0 or 1, or none
abbrev pub binary : List ℕ → Bool
binary l = all_in 0 (between 48 49) l

unfoldable pub splits_line : List ℕ → Bool
splits_line l = starts_with splits_key l && binary (drop (length splits_key) l)

-- what each of the five lines has to be, and its number
abbrev pub form_of : Kind → List ℕ → Bool
form_of Width = number_line width_key
form_of Height = number_line height_key
form_of Limit = number_line limit_key
form_of Edge = edge_line
form_of Splits = splits_line

abbrev pub no_value : List ℕ → ℕ
no_value l = 0

abbrev pub says_of : Kind → List ℕ → ℕ
says_of Width = number_after width_key
says_of Height = number_after height_key
says_of Limit = number_after limit_key
says_of Edge = old_edge
says_of Splits = no_value

-- ---- the first line that is malformed

-- the line that starts at a place has its newline, among the first 4,096 bytes, and is what it has to be
abbrev pub line_tests : Kind → List ℕ → ℕ → List Bool
line_tests kind s at =
    ltb (at + length (line_from s at)) (length s) ∷ ltb (at + length (line_from s at)) 4096 ∷ form_of kind (line_from s at) ∷ []

unfoldable pub line_ok : Kind → List ℕ → ℕ → Bool
line_ok kind s at = all_of (line_tests kind s at)

-- its number, and 0 where there is none: a byte after line 5 is line 6
unfoldable pub first_bad : List ℕ → ℕ
first_bad s =
    unless (line_ok Width s (start_of s 0)) 1
    (unless (line_ok Height s (start_of s 1)) 2
    (unless (line_ok Limit s (start_of s 2)) 3
    (unless (line_ok Edge s (start_of s 3)) 4
    (unless (line_ok Splits s (start_of s 4)) 5
    (unless (leb (length s) (start_of s 5)) 6
    0)))))

-- ---- what the lines say

abbrev pub width_of : List ℕ → ℕ
width_of s = says_of Width (line s 0)

abbrev pub height_of : List ℕ → ℕ
height_of s = says_of Height (line s 1)

abbrev pub limit_of : List ℕ → ℕ
limit_of s = says_of Limit (line s 2)

-- whether the sheet is old
abbrev pub old_of : List ℕ → Bool
old_of s = eqb (says_of Edge (line s 3)) 1

abbrev pub digits_of : List ℕ → List ℕ
digits_of s = drop (length splits_key) (line s 4)
