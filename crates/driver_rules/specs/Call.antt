-- The call `reconstruct`: its input, its outcome and the rule between them.
-- Assumes nothing: these are definitions.
use Rattle.std.specs.Prelude.{ℕ, ◌*◌, ◌/◌, Bool, List, [], ◌∷◌, eqb, length, Ok, Err}
use Rattle.laws.specs.Call.{unless, all_of}
use Rattle.laws.specs.Index.{tabulate}
use Rattle.def.specs.Answers.{after_checks}
pub use Rattle.def.specs.Formats.{colour_length}
use Rattle.def.specs.Picture.{size_ok, luma_length, unit_count, root_count}
use Rattle.def.specs.Refusals.{number_of}
use Rattle.def.specs.declared.Format.{Format}
use Rattle.def.specs.declared.Refusal.{Refusal}
use Rattle.def.specs.declared.Refusal.TheVariants.{Size, Length, Record, Mode, Qp, Sample}
use Rattle.def.specs.Answers.{Answer}
use Rattle.samples.specs.Samples.{samples_ok}
use Rattle.split.specs.Picture.{picture_walk, all_leaves}
use Rattle.split.specs.Walk.{Leaf}
use Rattle.driver_rules.specs.Records.{bytes_ok, most_mask, first, passed}
use Rattle.driver_rules.specs.Steps.{Given, State, steps}

pub record Input : Type 0 where
  pub given : Given
  pub splits : List ℕ
  pub y : List ℕ
  pub u : List ℕ
  pub v : List ℕ
  pub words : List ℕ
  pub modes : List ℕ
  pub keep : List ℕ

pub record Outcome : Type 0 where
  pub number : ℕ
  pub y : List ℕ
  pub u : List ℕ
  pub v : List ℕ
  pub words : List ℕ
  pub modes : List ℕ
  pub keep : List ℕ

abbrev pub leaves_of : (w h : ℕ) → List ℕ → List Leaf
leaves_of w h splits = all_leaves splits (w / 4) (h / 4)

-- ---- the checks

-- 2: what is read, but the two lists; and what is written
abbrev pub read_tests : (w h : ℕ) → Format → (splits py pu pv : ℕ) → List Bool
read_tests w h f splits py pu pv =
    eqb splits (1024 * root_count w h) ∷ eqb py (luma_length w h) ∷ eqb pu (colour_length f w h) ∷ eqb pv (colour_length f w h) ∷ []

unfoldable pub read_ok : (w h : ℕ) → Format → (splits py pu pv : ℕ) → Bool
read_ok w h f splits py pu pv = all_of (read_tests w h f splits py pu pv)

abbrev pub written_tests : (w h : ℕ) → Format → (y u v words modes keep : ℕ) → List Bool
written_tests w h f y u v words modes keep =
    eqb y (luma_length w h) ∷ eqb u (colour_length f w h) ∷ eqb v (colour_length f w h) ∷ eqb words (unit_count w h) ∷ eqb modes (unit_count w h) ∷ eqb keep (unit_count w h) ∷ []

unfoldable pub written_ok : (w h : ℕ) → Format → (y u v words modes keep : ℕ) → Bool
written_ok w h f y u v words modes keep = all_of (written_tests w h f y u v words modes keep)

-- 13: four bytes a leaf, as many residuals as the leaves take, no bit in a mask that the format does not have, and the last byte 0 or 1. residual: its list's length; at, k: where the leaves end
abbrev pub record_tests : Format → (r : List ℕ) (residual at k : ℕ) → List Bool
record_tests f r residual at k = eqb (length r) (4 * k) ∷ eqb residual at ∷ bytes_ok r k 2 (most_mask f) ∷ bytes_ok r k 3 1 ∷ []

unfoldable pub records_ok : Format → (r : List ℕ) (residual at k : ℕ) → Bool
records_ok f r residual at k = all_of (record_tests f r residual at k)

-- 7: the lent prediction, whether a leaf uses it or not
abbrev pub lent_tests : (py pu pv : List ℕ) → List Bool
lent_tests py pu pv = samples_ok py ∷ samples_ok pu ∷ samples_ok pv ∷ []

unfoldable pub lent_ok : (py pu pv : List ℕ) → Bool
lent_ok py pu pv = all_of (lent_tests py pu pv)

-- over all leaves, 13, 9, 6 and 7
unfoldable pub data_check : Format → (r : List ℕ) (residual : ℕ) (py pu pv : List ℕ) (l : List Leaf) → Answer
data_check f r residual py pu pv l =
    unless (records_ok f r residual (passed r l first).at (length l)) (Err Record)
    (unless (bytes_ok r (length l) 0 5) (Err Mode)
    (unless (bytes_ok r (length l) 1 51) (Err Qp)
    (unless (lent_ok py pu pv) (Err Sample)
    (Ok tt))))

-- 1, 2, then 4 or 5 as the walk meets them, and then the data. residual and what is written by their lengths
unfoldable pub check_of : (w h : ℕ) → Format → (splits leaves : List ℕ) (residual : ℕ) (py pu pv : List ℕ) (y u v words modes keep : ℕ) → Answer
check_of w h f splits leaves residual py pu pv y u v words modes keep =
    unless (size_ok w h) (Err Size)
    (unless (read_ok w h f (length splits) (length py) (length pu) (length pv)) (Err Length)
    (unless (written_ok w h f y u v words modes keep) (Err Length)
    (after_checks Err (data_check f leaves residual py pu pv (leaves_of w h splits))
    (picture_walk splits (w / 4) (h / 4)).answer)))

abbrev pub check : Input → Answer
check i =
    let g = i.given in
    check_of g.w g.h g.format i.splits g.leaves (length g.residual) g.pred_y g.pred_u g.pred_v
    (length i.y) (length i.u) (length i.v) (length i.words) (length i.modes) (length i.keep)

-- ---- the outcome

abbrev pub refused : Input → Refusal → Outcome
refused i r = record { number = number_of r; y = i.y; u = i.u; v = i.v; words = i.words; modes = i.modes; keep = i.keep }

-- map words start at 0
abbrev pub start : Input → State
start i =
    record { y = i.y; u = i.u; v = i.v; words = tabulate (length i.words) (λ (k : ℕ). 0); modes = i.modes; keep = i.keep; place = first }

abbrev pub end : Input → State
end i = steps i.given (leaves_of i.given.w i.given.h i.splits) (start i)

abbrev pub done : Input → Outcome
done i =
    let s = end i in
    record { number = 0; y = s.y; u = s.u; v = s.v; words = s.words; modes = s.modes; keep = s.keep }

unfoldable pub outcome : Input → Outcome
outcome i = after_checks (refused i) (done i) (check i)
