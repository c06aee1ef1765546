-- The text that `edgelist` prints for a sheet.
-- Assumes nothing: these are definitions.
use Rattle.std.specs.Prelude.{ℕ, zero, suc, ◌+◌, ◌*◌, ◌/◌, ◌%◌, Bool, not, List, [], ◌∷◌, ◌++◌, leb, ltb, eqb, length}
use Rattle.laws.specs.Call.{unless, all_of}
use Rattle.laws.specs.Index.{pick}
use Rattle.laws.specs.Orders.{each}
use Rattle.def.specs.Answers.{after_checks}
use Rattle.def.specs.Refusals.{number_of}
use Rattle.def.specs.declared.Refusal.{Refusal}
use Rattle.def.specs.declared.Refusal.TheVariants.{Size, Setting, Sheet, Old}
use Rattle.split.specs.Edges.{vertical, horizontal, Edge, edges_of}
use Rattle.split.specs.ListCall.{limit_ok}
use Rattle.sheet_lines.specs.Lines.{first_bad, width_of, height_of, limit_of, old_of, digits_of}
use Rattle.marks_rules.specs.Descent.{Descent}
use Rattle.sheet.specs.Descent.{picture_descent, as_sheet}
use Rattle.sheet.specs.Words.{refused_key, line_key, vertical_count, horizontal_count, newline}

-- ---- what is found in a sheet

-- a refusal, with the line that it names if it is 12; or both passes' edges
pub data Found : Type 0 where
  refused : Refusal → ℕ → Found
  listed : List Edge → List Edge → Found

-- a side is a multiple of 4, from 4 to 256
abbrev pub side_tests : ℕ → ℕ → List Bool
side_tests w h = leb 4 w ∷ leb w 256 ∷ eqb (w % 4) 0 ∷ leb 4 h ∷ leb h 256 ∷ eqb (h % 4) 0 ∷ []

unfoldable pub sides_ok : ℕ → ℕ → Bool
sides_ok w h = all_of (side_tests w h)

-- what the walk meets, digits that ran out among it; then digits that are left over; then the edges
unfoldable pub found_by : Bool → Descent → Found
found_by halved d =
    after_checks (λ (r : Refusal). refused (as_sheet r) 5)
    (unless (eqb (length d.left) 0) (refused Sheet 5)
    (listed (edges_of vertical halved d.walk.list) (edges_of horizontal halved d.walk.list)))
    d.walk.answer

-- 1, 3, 20, and then the digits
unfoldable pub found_of : (w h limit : ℕ) → (old : Bool) → List ℕ → Found
found_of w h limit old digits =
    unless (sides_ok w h) (refused Size 0)
    (unless (limit_ok limit) (refused Setting 0)
    (unless (not old) (refused Old 0)
    (found_by (eqb limit 5) (picture_descent (w / 4) (h / 4) digits))))

unfoldable pub found_in : List ℕ → Found
found_in s =
    unless (eqb (first_bad s) 0) (refused Sheet (first_bad s))
    (found_of (width_of s) (height_of s) (limit_of s) (old_of s) (digits_of s))

-- ---- the text

-- a number below 10 ^ k in decimal, without leading zeros
unfoldable pub decimal_by : ℕ → ℕ → List ℕ
decimal_by zero n = []
decimal_by (suc k) n = pick (ltb n 10) ((48 + n) ∷ []) (decimal_by k (n / 10) ++ ((48 + n % 10) ∷ []))

-- every number of a listing has four digits at most
abbrev pub decimal : ℕ → List ℕ
decimal n = decimal_by 4 n

-- `v` or `h` and a place
unfoldable pub place_text : (letter x y : ℕ) → List ℕ
place_text letter x y = (letter ∷ 32 ∷ []) ++ (decimal x ++ ((32 ∷ []) ++ (decimal y ++ newline)))

-- an edge by Q's first luma sample
abbrev pub edge_text : ℕ → Edge → List ℕ
edge_text letter e = place_text letter (4 * e.x) (4 * e.y)

unfoldable pub count_text : List ℕ → ℕ → List ℕ
count_text key n = key ++ (decimal n ++ newline)

-- 12 names its line
unfoldable pub line_text : ℕ → ℕ → List ℕ
line_text number n = pick (eqb number 12) (line_key ++ decimal n) []

unfoldable pub refused_text : Refusal → ℕ → List ℕ
refused_text r n = refused_key ++ (decimal (number_of r) ++ (line_text (number_of r) n ++ newline))

unfoldable pub listed_text : List Edge → List Edge → List ℕ
listed_text v h = each (edge_text 118) v ++ (each (edge_text 104) h ++ (count_text vertical_count (length v) ++ count_text horizontal_count (length h)))

abbrev pub printed : Found → List ℕ
printed (refused r n) = refused_text r n
printed (listed v h) = listed_text v h

abbrev pub text_of : List ℕ → List ℕ
text_of s = printed (found_in s)
