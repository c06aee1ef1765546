-- What the functions of a unit's edge and of its pass ask for and give: a picture's frame, places in it, and edges filtered and counted.
-- Assumes nothing: these are definitions.
use Rattle.std.specs.Prelude.{ℕ, ◌+◌, ◌*◌, ◌%◌, ◌≤◌, ◌<◌, List, ◌≡◌, ℤ, length, get_or}
use Rattle.def.specs.Formats.{in_format}
use Rattle.def.specs.Word.{qp_of}
use Rattle.def.specs.declared.Format.{Format}
use Rattle.split.specs.Edges.{Pass, vertical, horizontal, Edge}
use Rattle.df_rules.specs.Filter.{Planes, filter_all}
use Rattle.df_rules.specs.Strength.{Over, Maps}
use Rattle.df_rules.specs.Visit.{all_done}
use Rattle.df_rules.specs.Window.{Samples}

-- k is a unit of the maps, and its QP has an entry
pub record Unit (words : List ℕ) (motion refs : List ℤ) (k : ℕ) : Type 0 where
  pub word : k < length words
  pub mv : 4 * k + 4 ≤ length motion
  pub refi : 2 * k + 2 ≤ length refs
  pub qp : qp_of (get_or words k 0) ≤ 51

-- k is a unit of the keep marks, and its mark is 0 or 1
pub record Marked (keep : List ℕ) (k : ℕ) : Type 0 where
  pub there : k < length keep
  pub few : get_or keep k 0 ≤ 1

-- a picture of w by h units and of a format, with its maps, and the strength entries
pub record LentPicture (f : Format) (w h : ℕ) (y u v words : List ℕ) (over : Over) (entries : List ℕ) : Type 0 where
  pub wide : w ≤ 1024
  pub high : h ≤ 1024
  pub long_y : length y ≡ 4 * h * (4 * w)
  pub long_u : length u ≡ in_format f (2 * h * (2 * w))
  pub long_v : length v ≡ in_format f (2 * h * (2 * w))
  pub long_words : length words ≡ h * w
  pub long_motion : length over.motion ≡ 4 * (h * w)
  pub long_refs : length over.refs ≡ 2 * (h * w)
  pub long_keep : length over.keep ≡ h * w
  pub long_entries : length entries ≡ 624
  pub qps : (k : ℕ) → qp_of (get_or words k 0) ≤ 51
  pub marks : (k : ℕ) → get_or over.keep k 0 ≤ 1
  pub all_y : Samples y
  pub all_u : Samples u
  pub all_v : Samples v

-- how many units a picture of w by h has across a pass's edges, and along them
abbrev pub units_across : Pass → (w h : ℕ) → ℕ
units_across vertical w h = w
units_across horizontal w h = h

abbrev pub units_along : Pass → (w h : ℕ) → ℕ
units_along vertical w h = h
units_along horizontal w h = w

-- c across and a along is the first luma sample of a unit that has one before it
pub record AtUnit (d : Pass) (w h c a : ℕ) : Type 0 where
  pub whole_c : c % 4 ≡ 0
  pub whole_a : a % 4 ≡ 0
  pub inner : 4 ≤ c
  pub across : c < 4 * units_across d w h
  pub along : a < 4 * units_along d w h

-- both passes' lists were filtered, one after the other, and counted, and every unit is done. t: the strength entries
pub record BothPasses (m : Maps) (t : List ℕ) (w : ℕ) (ups levels : List Edge) (p q : Planes) (words : List ℕ) (ver hor : ℕ) : Type 0 where
  pub planes : q ≡ filter_all m t horizontal w levels (filter_all m t vertical w ups p)
  pub ups_counted : ver ≡ length ups
  pub levels_counted : hor ≡ length levels
  pub marks : words ≡ all_done m.words
