-- Mode ranks: the five bytes of the rank table that the modes of the left and the upper unit choose.
-- Assumes nothing: these are definitions.
use Rattle.std.specs.Prelude.{ℕ, ◌+◌, ◌-◌, ◌*◌, ◌/◌, ◌<◌, ◌≡◌, Bool, ◌&&◌, ◌||◌, List, [], ◌∷◌, leb, ltb, eqb, length, take, drop, Ok, Err}
use Rattle.laws.specs.Call.{unless, all_of}
use Rattle.laws.specs.Index.{pick}
use Rattle.def.specs.Answers.{answer_number, after_checks}
use Rattle.def.specs.Blocks.{unit_ok}
use Rattle.def.specs.Picture.{size_ok, unit_count}
use Rattle.def.specs.Word.{intra_of, done_of}
use Rattle.def.specs.declared.Refusal.TheVariants.{Size, Length, Block, Mode}
use Rattle.def.specs.Answers.{Answer}
use Rattle.def.specs.Units.{unit_at}

pub record Input : Type 0 where
  pub w : ℕ
  pub h : ℕ
  pub words : List ℕ
  pub modes : List ℕ
  pub table : List ℕ
  pub x : ℕ
  pub y : ℕ

-- ---- the two modes that are consulted

-- the mode of a unit that is intra and done; none, which is 255, of any other
abbrev pub mode_of : ℕ → ℕ → ℕ
mode_of word mode = pick (intra_of word && done_of word) mode 255

-- of a picture w wide, with a word and a mode a unit
abbrev pub mode_at : ℕ → (words modes : List ℕ) → (u v : ℕ) → ℕ
mode_at w words modes u v = mode_of (unit_at w words u v) (unit_at w modes u v)

-- of the unit to the left of (x, y), and of the one above it, if it exists
abbrev pub left_mode : ℕ → (words modes : List ℕ) → (x y : ℕ) → ℕ
left_mode w words modes x y = pick (ltb 0 x) (mode_at w words modes (x - 1) y) 255

abbrev pub up_mode : ℕ → (words modes : List ℕ) → (x y : ℕ) → ℕ
up_mode w words modes x y = pick (ltb 0 y) (mode_at w words modes x (y - 1)) 255

-- what a reader of the two needs: maps of a picture, and one of its units
pub record UnitOf (w h : ℕ) (words modes : List ℕ) (x y : ℕ) : Type 0 where
  pub words_long : length words ≡ unit_count w h
  pub modes_long : length modes ≡ unit_count w h
  pub column : x < w / 4
  pub row : y < h / 4

-- 0 to 4, or 255
abbrev pub mode_ok : ℕ → Bool
mode_ok mode = leb mode 4 || eqb mode 255

-- ---- the row of ranks

-- mode + 1, and 0 of none
abbrev pub mode_index : ℕ → ℕ
mode_index mode = pick (eqb mode 255) 0 (mode + 1)

unfoldable pub row_start : ℕ → (words modes : List ℕ) → (x y : ℕ) → ℕ
row_start w words modes x y = 5 * (6 * mode_index (left_mode w words modes x y) + mode_index (up_mode w words modes x y))

-- ---- the two calls

-- a word and a mode a unit; five ranks for each of six by six
abbrev pub length_tests : (w h words modes table : ℕ) → List Bool
length_tests w h words modes table = eqb words (unit_count w h) ∷ eqb modes (unit_count w h) ∷ eqb table 180 ∷ []

unfoldable pub lengths_ok : (w h words modes table : ℕ) → Bool
lengths_ok w h words modes table = all_of (length_tests w h words modes table)

-- a byte that is not consulted is none, and passes
unfoldable pub modes_ok : ℕ → (words modes : List ℕ) → (x y : ℕ) → Bool
modes_ok w words modes x y = all_of (mode_ok (left_mode w words modes x y) ∷ mode_ok (up_mode w words modes x y) ∷ [])

unfoldable pub check : Input → Answer
check i =
    unless (size_ok i.w i.h) (Err Size)
    (unless (lengths_ok i.w i.h (length i.words) (length i.modes) (length i.table)) (Err Length)
    (unless (unit_ok i.w i.h i.x i.y) (Err Block)
    (unless (modes_ok i.w i.words i.modes i.x i.y) (Err Mode)
    (Ok tt))))

pub record Outcome : Type 0 where
  pub number : ℕ

-- the companion's rule: the number alone
unfoldable pub number_outcome : Input → Outcome
number_outcome i = record { number = answer_number (check i) }

-- where a lent slice lies, and what it holds
pub record Part : Type 0 where
  pub memory : ℕ
  pub start : ℕ
  pub bytes : List ℕ

pub record PartInput : Type 0 where
  pub input : Input
  pub memory : ℕ
  pub start : ℕ

-- the n bytes from k of the lent table itself
abbrev pub part_of : PartInput → ℕ → ℕ → Part
part_of i k n = record { memory = i.memory; start = i.start + k; bytes = take n (drop k i.input.table) }

-- five ranks, or the empty part at the table's start
unfoldable pub part_outcome : PartInput → Part
part_outcome i = after_checks (λ r. part_of i 0 0) (part_of i (row_start i.input.w i.input.words i.input.modes i.input.x i.input.y) 5) (check i.input)
