-- Gathering: the run of samples around a block, left downwards, the corner, up rightwards, in one component.
-- Assumes nothing: these are definitions.
use Rattle.std.specs.Prelude.{ℕ, ◌+◌, ◌-◌, ◌*◌, ◌/◌, Bool, not, ◌&&◌, ◌||◌, List, [], ◌∷◌, leb, ltb, eqb, length, get_or, Ok, Err}
use Rattle.laws.specs.Call.{unless, all_of}
use Rattle.laws.specs.Index.{pick, tabulate}
use Rattle.laws.specs.Scan.{all_below}
use Rattle.def.specs.Answers.{after_checks}
use Rattle.def.specs.Blocks.{block_ok}
use Rattle.def.specs.Components.{scale_of, plane_length}
pub use Rattle.def.specs.Components.{unit_side}
use Rattle.def.specs.Picture.{size_ok, unit_count}
use Rattle.def.specs.Refusals.{number_of}
use Rattle.def.specs.Word.{intra_of, done_of}
use Rattle.def.specs.declared.Component.{Component}
use Rattle.def.specs.declared.Refusal.{Refusal}
use Rattle.def.specs.declared.Refusal.TheVariants.{Size, Length, Sample, Block}
use Rattle.def.specs.Answers.{Answer}
use Rattle.def.specs.Units.{unit_at}

-- a block with the plane and the words that are lent; x, y and side are its own in luma, for chroma too
pub record Around : Type 0 where
  pub component : Component
  pub w : ℕ
  pub h : ℕ
  pub plane : List ℕ
  pub words : List ℕ
  pub x : ℕ
  pub y : ℕ
  pub side : ℕ
  pub constrained : Bool

pub record Input : Type 0 where
  pub around : Around
  pub run : List ℕ

-- ---- in the component's own samples

-- the plane's width, and the block's column, row and side
abbrev pub across : Around → ℕ
across i = i.w / scale_of i.component

abbrev pub column : Around → ℕ
column i = i.x / scale_of i.component

abbrev pub row : Around → ℕ
row i = i.y / scale_of i.component

abbrev pub side_of : Component → ℕ → ℕ
side_of c side = side / scale_of c

-- ---- the samples around a block

-- a unit counts where it is done, and intra when constrained
abbrev pub counts : Bool → ℕ → Bool
counts constrained word = done_of word && (not constrained || intra_of word)

-- the unit at column u, row v is present: it is in the picture, and counts
abbrev pub present_at : Around → ℕ → ℕ → Bool
present_at i u v = (ltb u (i.w / 4) && ltb v (i.h / 4)) && counts i.constrained (unit_at i.w i.words u v)

-- the sample at column c, row r where its unit is present, and else 512
abbrev pub sample_at : Around → ℕ → ℕ → ℕ
sample_at i c r = pick (present_at i (c / unit_side i.component) (r / unit_side i.component)) (get_or i.plane (r * across i + c) 0) 512

-- the one a columns and b rows from the sample up-left of the block; 512 too where that is outside, left or above
unfoldable pub near_at : Around → ℕ → ℕ → ℕ
near_at i a b = pick (ltb 0 (column i + a) && ltb 0 (row i + b)) (sample_at i (column i + a - 1) (row i + b - 1)) 512

-- left downwards, then from the corner, which is number twice the side, up rightwards
unfoldable pub run_at : Around → ℕ → ℕ
run_at i k =
    let n = side_of i.component i.side in
    pick (ltb k (2 * n)) (near_at i 0 (k + 1)) (near_at i (k - 2 * n) 0)

abbrev pub run_length : Component → ℕ → ℕ
run_length c side = 4 * side_of c side + 1

unfoldable pub run_of : Around → List ℕ
run_of i = tabulate (run_length i.component i.side) (run_at i)

-- ---- the call

-- a sample over 1023 among those gathered. What stands for a missing one, 512, passes
unfoldable pub samples_ok : Around → Bool
samples_ok i = all_below (λ (k : ℕ). leb (run_at i k) 1023) (run_length i.component i.side)

-- the plane and the words
abbrev pub length_tests : Component → (w h plane words : ℕ) → List Bool
length_tests c w h plane words = eqb plane (plane_length c w h) ∷ eqb words (unit_count w h) ∷ []

unfoldable pub lengths_ok : Component → (w h plane words : ℕ) → Bool
lengths_ok c w h plane words = all_of (length_tests c w h plane words)

-- the size, the block, and the lengths of the plane, the words and the run; then what is given
abbrev pub form_then : Component → (w h x y side plane words run : ℕ) → Answer → Answer
form_then c w h x y side plane words run last =
    unless (size_ok w h) (Err Size)
    (unless (lengths_ok c w h plane words) (Err Length)
    (unless (block_ok w h x y side) (Err Block)
    (unless (eqb run (run_length c side)) (Err Length)
    last)))

abbrev pub samples_check : Around → Answer
samples_check i = unless (samples_ok i) (Err Sample) (Ok tt)

unfoldable pub check_of : Around → ℕ → Answer
check_of i run = form_then i.component i.w i.h i.x i.y i.side (length i.plane) (length i.words) run (samples_check i)

abbrev pub check : Input → Answer
check i = check_of i.around (length i.run)

pub record Outcome : Type 0 where
  pub number : ℕ
  pub run : List ℕ

abbrev pub refused : Input → Refusal → Outcome
refused i r = record { number = number_of r; run = i.run }

abbrev pub done : Input → Outcome
done i = record { number = 0; run = run_of i.around }

unfoldable pub outcome : Input → Outcome
outcome i = after_checks (refused i) (done i) (check i)
