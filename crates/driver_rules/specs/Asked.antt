-- What the functions of the driver ask, past the checks, of what is lent and of the state as it stands.
-- Assumes nothing: these are definitions.
use Rattle.std.specs.Prelude.{ℕ, ◌+◌, ◌*◌, ◌/◌, ◌%◌, ◌≤◌, ◌<◌, ◌≡◌, true, List, length, get_or}
use Rattle.def.specs.Blocks.{block_ok}
use Rattle.def.specs.Components.{scale_of, plane_length}
use Rattle.def.specs.Formats.{in_format}
use Rattle.def.specs.Picture.{size_ok, unit_count}
use Rattle.def.specs.Word.{done_of}
use Rattle.def.specs.declared.Component.{Component}
use Rattle.def.specs.declared.Component.TheVariants.{Luma, Chroma}
use Rattle.def.specs.declared.Format.TheVariants.{Colour}
use Rattle.nbr.specs.Gather.{Around, unit_side}
use Rattle.def.specs.Units.{unit_at}
use Rattle.samples.specs.Samples.{samples_ok}
pub use Rattle.split.specs.Accepted.{Accepted}
use Rattle.split.specs.Picture.{root_leaves}
use Rattle.split.specs.Stored.{leaves_from}
use Rattle.driver_rules.specs.Records.{Place, record_mask, most_mask}
use Rattle.driver_rules.specs.Steps.{Given, State, steps}
use Rattle.split.specs.Walk.{Leaf}

-- every sample of a unit that is done stands to the one at its place in another plane as R says. Nothing is asked of the others, which are never gathered
pub record DoneAs (c : Component) (w h : ℕ) (R : ℕ → ℕ → Type 0) (plane other words : List ℕ) : Type 0 where
  pub each : (x y : ℕ) → x < w / scale_of c → y < h / scale_of c → done_of (unit_at w words (x / unit_side c) (y / unit_side c)) ≡ true
      → R (get_or plane (y * (w / scale_of c) + x) 0) (get_or other (y * (w / scale_of c) + x) 0)

-- it is one of 10 bits
abbrev pub Small : (sample other : ℕ) → Type 0
Small sample other = sample ≤ 1023

abbrev pub DoneSmall : (c : Component) (w h : ℕ) (plane words : List ℕ) → Type 0
DoneSmall c w h plane words = DoneAs c w h Small plane plane words

-- a block in a component's plane, with the words
pub record BlockAsked (a : Around) : Type 0 where
  pub size : size_ok a.w a.h ≡ true
  pub block : block_ok a.w a.h a.x a.y a.side ≡ true
  pub plane_long : length a.plane ≡ plane_length a.component a.w a.h
  pub words_long : length a.words ≡ unit_count a.w a.h
  pub done_small : DoneSmall a.component a.w a.h a.plane a.words

-- the lent prediction's plane in a component
pub record LentAsked (c : Component) (w h : ℕ) (lent : List ℕ) : Type 0 where
  pub long : length lent ≡ plane_length c w h
  pub small : samples_ok lent ≡ true

-- of U and V only where the picture has them
pub record GivenAsked (g : Given) : Type 0 where
  pub size : size_ok g.w g.h ≡ true
  pub lent_y : LentAsked Luma g.w g.h g.pred_y
  pub lent_u : g.format ≡ Colour → LentAsked Chroma g.w g.h g.pred_u
  pub lent_v : g.format ≡ Colour → LentAsked Chroma g.w g.h g.pred_v
  pub masks : (k : ℕ) → record_mask g.leaves k ≤ most_mask g.format

-- the planes and the maps as they stand
pub record StateAsked (g : Given) (s : State) : Type 0 where
  pub y_long : length s.y ≡ plane_length Luma g.w g.h
  pub u_long : length s.u ≡ in_format g.format (plane_length Chroma g.w g.h)
  pub v_long : length s.v ≡ in_format g.format (plane_length Chroma g.w g.h)
  pub words_long : length s.words ≡ unit_count g.w g.h
  pub modes_long : length s.modes ≡ unit_count g.w g.h
  pub keep_long : length s.keep ≡ unit_count g.w g.h
  pub y_done : DoneSmall Luma g.w g.h s.y s.words
  pub u_done : DoneSmall Chroma g.w g.h s.u s.words
  pub v_done : DoneSmall Chroma g.w g.h s.v s.words

-- the two lists reach as far as the walk has come
pub record Reaches (r : List ℕ) (residual : ℕ) (t : Place) : Type 0 where
  pub records : 4 * t.k ≤ length r
  pub residuals : t.at ≤ residual

-- each of the first n leaves of a list is a block of the picture
pub record Blocks (w h : ℕ) (l : List ℕ) (n : ℕ) : Type 0 where
  pub long : length l ≡ 768
  pub few : n ≤ 256
  pub blocks : (j : ℕ) → j < n → block_ok w h (get_or l (3 * j) 0) (get_or l (3 * j + 1) 0) (get_or l (3 * j + 2) 0) ≡ true

-- and so its side is one of a block's
pub record Sides (l : List ℕ) (n : ℕ) : Type 0 where
  pub long : length l ≡ 768
  pub few : n ≤ 256
  pub units : (j : ℕ) → j < n → get_or l (3 * j + 2) 0 % 4 ≡ 0
  pub most : (j : ℕ) → j < n → get_or l (3 * j + 2) 0 ≤ 64

-- the list holds the leaves of root i, n of them
pub record Listed (w h : ℕ) (splits : List ℕ) (i : ℕ) (l : List ℕ) (n : ℕ) : Type 0 where
  pub same : leaves_from l n ≡ root_leaves splits (w / 4) (h / 4) i
  pub blocks : Blocks w h l n

-- the leaves of a list have brought the state from one to the other
pub record Stepped (g : Given) (l : List Leaf) (s t : State) : Type 0 where
  pub same : t ≡ steps g l s
  pub asked : StateAsked g t
