-- The map of edge rows: a byte a unit, with the strength row of its left edge in bits 0..1 and that of its top edge in bits 2..3, and 0 where no
-- unit lies on that side. A pass names the side: the edges of the vertical pass are left ones, those of the horizontal pass top ones. A map has c units a row: unit k stands
-- in column k % c, row k / c.
-- Assumes nothing: these are definitions.
use Rattle.std.specs.Prelude.{ℕ, ◌-◌, ◌/◌, ◌%◌, ◌<◌, ◌≡◌, Bool, ◌&&◌, ◌||◌, List, ltb, eqb, ℤ, length, get_or}
use Rattle.laws.specs.Bits.{with_field}
use Rattle.laws.specs.Index.{pick, tabulate}
use Rattle.laws.specs.Scan.{all_below}
use Rattle.def.specs.Picture.{unit_count}
use Rattle.split.specs.Edges.{Pass, vertical, horizontal}
use Rattle.df_rules.specs.Places.{step_across}
use Rattle.df_rules.specs.Strength.{row_by}

-- a unit lies on that side of unit k
abbrev pub has_side : Pass → (c k : ℕ) → Bool
has_side vertical c k = ltb 0 (k % c)
has_side horizontal c k = ltb 0 (k / c)

-- the first of the side's two bits
abbrev pub first_bit : Pass → ℕ
first_bit vertical = 0
first_bit horizontal = 2

module _ (words : List ℕ) (motion refs : List ℤ) (c : ℕ) where
  -- the row of unit k's edge on that side
  unfoldable pub edge_row : Pass → ℕ → ℕ
  edge_row d k = pick (has_side d c k) (row_by words motion refs k (k - step_across d c)) 0

  -- the byte of unit k
  unfoldable pub rule_byte : ℕ → ℕ
  rule_byte k = with_field (first_bit horizontal) 2 (edge_row horizontal k) (with_field (first_bit vertical) 2 (edge_row vertical k) 0)

  -- the map of n units
  abbrev pub rule_map : ℕ → List ℕ
  rule_map n = tabulate n rule_byte

-- a map that is right: every byte is that of the rule
pub record RightMap (w h : ℕ) (words : List ℕ) (motion refs : List ℤ) (rows : List ℕ) : Type 0 where
  pub long : length rows ≡ unit_count w h
  pub right : (k : ℕ) → k < unit_count w h → get_or rows k 0 ≡ rule_byte words motion refs (w / 4) k

-- its test
unfoldable pub right_bytes : List ℕ → (motion refs : List ℤ) → (c : ℕ) → List ℕ → Bool
right_bytes words motion refs c rows = all_below (λ (k : ℕ). eqb (get_or rows k 0) (rule_byte words motion refs c k)) (length rows)

-- ---- an edit of unit a

-- unit k's edge on that side is one of a's four: k is a, or a is the unit on that side
abbrev pub edge_of : Pass → (c a k : ℕ) → Bool
edge_of d c a k = eqb k a || (has_side d c k && eqb (k - step_across d c) a)

module _ (words : List ℕ) (motion refs : List ℤ) (c a : ℕ) where
  -- unit k's byte b, with the side's row by the rule where that edge is one of a's; no other bit is set
  abbrev pub with_edge : Pass → (k b : ℕ) → ℕ
  with_edge d k b = pick (edge_of d c a k) (with_field (first_bit d) 2 (edge_row words motion refs c d k) b) b

  abbrev pub edited_byte : (k b : ℕ) → ℕ
  edited_byte k b = with_edge horizontal k (with_edge vertical k b)

  -- any map, after an edit that left these words, this motion and these references
  unfoldable pub edited_map : List ℕ → List ℕ
  edited_map rows = tabulate (length rows) (λ (k : ℕ). edited_byte k (get_or rows k 0))
