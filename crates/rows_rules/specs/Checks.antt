-- What the calls refuse, by the lengths of what is lent: 1 and 2, and of a unit 8.
-- Assumes nothing: these are definitions.
use Rattle.std.specs.Prelude.{ℕ, ◌*◌, ◌/◌, Bool, false, List, [], ◌∷◌, eqb, ℤ, length, Ok, Err}
use Rattle.laws.specs.Call.{unless, all_of}
use Rattle.def.specs.Answers.{after_checks}
use Rattle.def.specs.Blocks.{unit_ok}
use Rattle.def.specs.Picture.{size_ok, unit_count}
use Rattle.def.specs.declared.Refusal.TheVariants.{Size, Length, Block}
use Rattle.def.specs.Answers.{Answer}
use Rattle.rows_rules.specs.Rule.{right_bytes}

-- a word, four numbers of motion, two references and a byte of rows a unit
abbrev pub length_tests : (w h words motion refs rows : ℕ) → List Bool
length_tests w h words motion refs rows =
    eqb words (unit_count w h) ∷ eqb motion (4 * unit_count w h) ∷ eqb refs (2 * unit_count w h) ∷ eqb rows (unit_count w h) ∷ []

unfoldable pub lengths_ok : (w h words motion refs rows : ℕ) → Bool
lengths_ok w h words motion refs rows = all_of (length_tests w h words motion refs rows)

unfoldable pub check_maps : (w h words motion refs rows : ℕ) → Answer
check_maps w h words motion refs rows =
    unless (size_ok w h) (Err Size)
    (unless (lengths_ok w h words motion refs rows) (Err Length)
    (Ok tt))

-- the map is right, and its maps are those of a picture of w by h
unfoldable pub right_ok : (w h : ℕ) → List ℕ → (motion refs : List ℤ) → List ℕ → Bool
right_ok w h words motion refs rows =
    after_checks (λ r. false) (right_bytes words motion refs (w / 4) rows) (check_maps w h (length words) (length motion) (length refs) (length rows))

unfoldable pub check_unit : (w h words motion refs rows x y : ℕ) → Answer
check_unit w h words motion refs rows x y =
    unless (size_ok w h) (Err Size)
    (unless (lengths_ok w h words motion refs rows) (Err Length)
    (unless (unit_ok w h x y) (Err Block)
    (Ok tt)))
