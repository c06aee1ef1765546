-- Residual addition into one component's plane of a picture, at a block named by its luma place and side.
-- Assumes nothing: these are definitions.
use Rattle.std.specs.Prelude.{ℕ, ◌+◌, ◌*◌, ◌/◌, ◌≤◌, ◌<◌, ◌≡◌, Bool, true, List, [], ◌∷◌, eqb, ℤ, length, Ok, Err}
use Rattle.laws.specs.Call.{unless, all_of}
use Rattle.laws.specs.Plane.{with_block}
use Rattle.def.specs.Answers.{after_checks}
use Rattle.def.specs.Blocks.{block_ok}
use Rattle.def.specs.Components.{scale_of, plane_length}
use Rattle.def.specs.Picture.{size_ok}
use Rattle.def.specs.Refusals.{number_of}
use Rattle.def.specs.declared.Component.{Component}
use Rattle.def.specs.declared.Refusal.{Refusal}
use Rattle.def.specs.declared.Refusal.TheVariants.{Size, Block, Length, Sample}
use Rattle.def.specs.Answers.{Answer}
use Rattle.samples.specs.Samples.{samples_ok}
use Rattle.recon.specs.Recon.{Outcome, block_at}

pub record Input : Type 0 where
  pub component : Component
  pub w : ℕ
  pub h : ℕ
  pub x : ℕ
  pub y : ℕ
  pub side : ℕ
  pub coded : Bool
  pub pred : List ℕ
  pub coef : List ℤ
  pub rec : List ℕ

-- a length or a place in luma samples, in the component's own
abbrev pub in_component : Input → ℕ → ℕ
in_component i n = n / scale_of i.component

-- the lengths that the side fixes, n being the side in the component
unfoldable pub block_lengths_ok : (n pred coef : ℕ) → Bool
block_lengths_ok n pred coef = all_of (eqb pred (n * n) ∷ eqb coef (n * n) ∷ [])

-- by the lengths of the residual and the plane
unfoldable pub plane_check : (component : Component) (w h x y side : ℕ) (pred : List ℕ) (coef rec : ℕ) → Answer
plane_check component w h x y side pred coef rec =
    unless (size_ok w h) (Err Size)
    (unless (eqb rec (plane_length component w h)) (Err Length)
    (unless (block_ok w h x y side) (Err Block)
    (unless (block_lengths_ok (side / scale_of component) (length pred) coef) (Err Length)
    (unless (samples_ok pred) (Err Sample)
    (Ok tt)))))

abbrev pub check : Input → Answer
check i = plane_check i.component i.w i.h i.x i.y i.side i.pred (length i.coef) (length i.rec)

abbrev pub refused : Input → Refusal → Outcome
refused i r = record { number = number_of r; rec = i.rec }

-- the plane with the block in it: every other sample is as it was
abbrev pub done : Input → Outcome
done i =
    let n = in_component i i.side in
    record {
      number = 0;
      rec =
          with_block 0 (in_component i i.w) (in_component i i.x) (in_component i i.y) n n
          (block_at i.coded i.pred i.coef n) i.rec;
    }

-- what the function inside asks: a block of n by n samples at column x, row y of a plane of rows of w, with what is lent for it
pub record Fitting (w x y n : ℕ) (pred : List ℕ) (coef : List ℤ) (rec : List ℕ) : Type 0 where
  pub some : 0 < w
  pub across : x + n ≤ w
  pub down : (y + n) * w ≤ length rec
  pub rows : y + n ≤ 4096
  pub pred_long : length pred ≡ n * n
  pub coef_long : length coef ≡ n * n
  pub good : samples_ok pred ≡ true

unfoldable pub outcome : Input → Outcome
outcome i = after_checks (refused i) (done i) (check i)
