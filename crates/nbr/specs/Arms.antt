-- The run as the code makes it: three arms, the left column, the corner and the row above, each by a start and a stride.
-- Assumes nothing: these are definitions.
use Rattle.std.specs.Prelude.{ℕ, ◌+◌, ◌-◌, ◌*◌, ◌/◌, ◌≤◌, ◌<◌, ◌≡◌, Bool, true, ◌&&◌, List, ltb, eqb, length, get_or}
use Rattle.laws.specs.Index.{pick}
use Rattle.laws.specs.Plane.{with_row}
use Rattle.def.specs.Blocks.{block_ok}
use Rattle.def.specs.Components.{scale_of, plane_length}
use Rattle.def.specs.Picture.{size_ok, unit_count}
use Rattle.def.specs.declared.Component.{Component}
use Rattle.samples.specs.Samples.{sample_ok}
use Rattle.nbr.specs.declared.Arm.{Arm}
use Rattle.nbr.specs.declared.Border.{Border}
use Rattle.nbr.specs.declared.Block.{Block}
use Rattle.nbr.specs.Gather.{Around, counts, unit_side}

-- unit i of an arm is present
unfoldable pub present_in : Arm → Bool → List ℕ → ℕ → Bool
present_in a constrained words i = ltb i a.there && counts constrained (get_or words (a.word + i * a.next) 0)

-- sample k of an arm of units of n samples
unfoldable pub arm_at : Arm → ℕ → Bool → (plane words : List ℕ) → ℕ → ℕ
arm_at a n constrained plane words k = pick (present_in a constrained words (k / n)) (get_or plane (a.from + k * a.step) 0) 512

-- what is read of an arm lies within the plane and the words
pub record Within (a : Arm) (n : ℕ) (plane words : List ℕ) : Type 0 where
  pub some : 0 < n
  pub small : n ≤ 4
  pub few : a.there ≤ 1024
  pub words_in : (i : ℕ) → i < a.there → a.word + i * a.next < length words
  pub samples_in_lem : (k : ℕ) → k < a.there * n → a.from + k * a.step < length plane

-- ---- the three arms of a block at (x, y) in luma

abbrev pub no_arm : Arm
no_arm = record { from = 0; step = 1; word = 0; next = 0; there = 0 }

-- down the column left of the block
unfoldable pub left_arm : Component → (w h x y : ℕ) → Arm
left_arm c w h x y =
    pick (eqb (x / 4) 0) no_arm
    (record {
      from = y / scale_of c * (w / scale_of c) + (x / scale_of c - 1);
      step = w / scale_of c;
      word = y / 4 * (w / 4) + (x / 4 - 1);
      next = w / 4;
      there = h / 4 - y / 4;
    })

-- the corner, an arm of one sample
unfoldable pub corner_arm : Component → (w x y : ℕ) → Arm
corner_arm c w x y =
    pick (eqb (x / 4) 0) no_arm
    (pick (eqb (y / 4) 0) no_arm
    (record {
      from = (y / scale_of c - 1) * (w / scale_of c) + (x / scale_of c - 1);
      step = 1;
      word = (y / 4 - 1) * (w / 4) + (x / 4 - 1);
      next = 1;
      there = 1;
    }))

-- along the row above the block
unfoldable pub up_arm : Component → (w x y : ℕ) → Arm
up_arm c w x y =
    pick (eqb (y / 4) 0) no_arm
    (record {
      from = (y / scale_of c - 1) * (w / scale_of c) + x / scale_of c;
      step = 1;
      word = (y / 4 - 1) * (w / 4) + x / 4;
      next = 1;
      there = w / 4 - x / 4;
    })

-- ---- what the functions over a block need

-- a block of a picture
pub record BlockOf (w h x y side : ℕ) : Type 0 where
  pub size : size_ok w h ≡ true
  pub block : block_ok w h x y side ≡ true

-- with a plane and words of its lengths
pub record Lent (c : Component) (w h : ℕ) (plane words : List ℕ) : Type 0 where
  pub plane_long : length plane ≡ plane_length c w h
  pub words_long : length words ≡ unit_count w h

-- ---- the same of the code's block

abbrev pub left_of : Block → Arm
left_of b = left_arm b.component b.w b.h b.x.0 b.y.0

abbrev pub corner_of : Block → Arm
corner_of b = corner_arm b.component b.w b.x.0 b.y.0

abbrev pub up_of : Block → Arm
up_of b = up_arm b.component b.w b.x.0 b.y.0

abbrev pub Stands : Block → Type 0
Stands b = BlockOf b.w b.h b.x.0 b.y.0 b.side

abbrev pub LentTo : Block → (plane words : List ℕ) → Type 0
LentTo b plane words = Lent b.component b.w b.h plane words

abbrev pub around_of : Block → (plane words : List ℕ) → Bool → Around
around_of b plane words constrained =
    record {
      component = b.component;
      w = b.w;
      h = b.h;
      plane = plane;
      words = words;
      x = b.x.0;
      y = b.y.0;
      side = b.side;
      constrained = constrained;
    }

-- ---- the three together

-- the arms of a block
pub record BorderOf (b : Block) (a : Border) : Type 0 where
  pub left : a.left ≡ left_of b
  pub corner : a.corner ≡ corner_of b
  pub up : a.up ≡ up_of b
  pub units : a.units ≡ b.side / 2
  pub n : a.n ≡ unit_side b.component

-- the samples of an arm that lie in the picture lie in the plane
abbrev pub InPlane : Arm → ℕ → List ℕ → Type 0
InPlane a n plane = (k : ℕ) → k < a.there * n → a.from + k * a.step < length plane

-- those of its first `units` units pass
abbrev pub Passing : Arm → (units n : ℕ) → List ℕ → Type 0
Passing a units n plane = (k : ℕ) → k < units * n → k < a.there * n → sample_ok (get_or plane (a.from + k * a.step) 0) ≡ true

-- what the join of all samples near a block asks, and what it tells
pub record Near (a : Border) (plane : List ℕ) : Type 0 where
  pub small : a.n ≤ 4
  pub few : a.units ≤ 32
  pub sizes : (a.n ≡ 4 → ⊥) → a.n ≡ 2
  pub left_in : InPlane a.left a.n plane
  pub corner_in : InPlane a.corner 1 plane
  pub up_in : InPlane a.up a.n plane

pub record AllPassing (a : Border) (plane : List ℕ) : Type 0 where
  pub left_passes : Passing a.left a.units a.n plane
  pub corner_passes : Passing a.corner 1 1 plane
  pub up_passes : Passing a.up a.units a.n plane

-- what is read of the three arms, their words too
pub record Reads (a : Border) (plane words : List ℕ) : Type 0 where
  pub few : a.units ≤ 32
  pub sizes : (a.n ≡ 4 → ⊥) → a.n ≡ 2
  pub left_within : Within a.left a.n plane words
  pub corner_within : Within a.corner 1 plane words
  pub up_within : Within a.up a.n plane words

-- the three written one after the other
abbrev pub border_in : Border → Bool → (plane words run : List ℕ) → List ℕ
border_in a constrained plane words run =
    with_row 0 (a.units * a.n + 1) (a.units * a.n) (arm_at a.up a.n constrained plane words)
    (with_row 0 (a.units * a.n) (1 * 1) (arm_at a.corner 1 constrained plane words)
    (with_row 0 0 (a.units * a.n) (arm_at a.left a.n constrained plane words) run))
