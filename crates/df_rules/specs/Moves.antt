-- Which samples an edge's window writes, how far a pass can move one, and which stay: those that no edge writes, and those of kept units.
-- Assumes nothing: these are definitions.
use Rattle.std.specs.Prelude.{ℕ, zero, suc, ◌+◌, ◌*◌, ◌/◌, ◌%◌, ◌≤◌, ◌<◌, max, Bool, true, false, ◌||◌, ◌≡◌, eqb, get_or}
use mathlib.Core.List.{List, [], ◌∷◌, Memᴰ}
use Rattle.def.specs.declared.Component.{Component}
use Rattle.def.specs.declared.Component.TheVariants.{Luma, Chroma}
use Rattle.laws.specs.Orders.{Pairwise, run}
use Rattle.laws.specs.Sign.{gap_n}
use Rattle.line.specs.declared.Mask.{Mask}
use Rattle.split.specs.Edges.{Pass, vertical, horizontal, Edge}
use Rattle.split.specs.Rows.{cross_of, along_of}
use Rattle.df_rules.specs.Filter.{mask_at, filtered, finished}
use Rattle.df_rules.specs.Places.{unit_side, step_across, step_along, line_start}
use Rattle.df_rules.specs.Strength.{Maps, kept_at}
use Rattle.df_rules.specs.Window.{Samples}

-- the largest entry
unfoldable pub largest : List ℕ → ℕ
largest [] = 0
largest (x ∷ l) = max x (largest l)

-- sample j of a line: A, B, C, D. Whether the mask writes it, and whether it is an outer one
abbrev pub written_by : Mask → ℕ → Bool
written_by m zero = m.a
written_by m (suc zero) = m.b
written_by m (suc (suc zero)) = m.c
written_by m (suc (suc (suc zero))) = m.d
written_by m (suc (suc (suc (suc j)))) = false

-- place i of the plane is sample j of line k of the edge's window
pub record Spot (d : Pass) (c : Component) (w : ℕ) (e : Edge) (i : ℕ) : Type 0 where
  pub line : ℕ
  pub sample : ℕ
  pub lines : line < unit_side c
  pub four : sample < 4
  pub is : i ≡ line_start d (unit_side c * w) (unit_side c * cross_of d e) (unit_side c * along_of d e) + line * step_along d (unit_side c * w) + sample * step_across d (unit_side c * w)

-- and is written, by the marks of the edge's units
pub record Writes (m : Maps) (d : Pass) (c : Component) (w : ℕ) (e : Edge) (i : ℕ) : Type 0 where
  pub spot : Spot d c w e i
  pub written : written_by (mask_at m d c w e) spot.sample ≡ true

-- the unit that place i of a plane lies in
abbrev pub unit_of : Component → (w i : ℕ) → ℕ
unit_of c w i = let m = unit_side c in i / (m * w) / m * w + i % (m * w) / m

-- an edge of a picture of w units a row, with a unit before it
pub record Inner (d : Pass) (w : ℕ) (e : Edge) : Type 0 where
  pub before : 0 < cross_of d e
  pub column : e.x < w

-- a list of such edges, each once
pub record Once (d : Pass) (w : ℕ) (l : List Edge) : Type 0 where
  pub inner : (e : Edge) → Memᴰ e l → Inner d w e
  pub apart : Pairwise (λ e f. e ≡ f → ⊥) l

-- one pass over a plane
abbrev pub passed : Maps → (strengths : List ℕ) → (at : ℕ → ℕ) → Pass → Component → (w : ℕ) → List Edge → List ℕ → List ℕ
passed m t at d c w l xs = run (filtered m t at d c w) l xs

-- an outer sample of an edge: A or D
abbrev pub outer_of : ℕ → Bool
outer_of j = eqb j 0 || eqb j 3

-- what is proved of one pass
pub record PassMoves (m : Maps) (t : List ℕ) (at : ℕ → ℕ) (d : Pass) (c : Component) (w : ℕ) (l : List Edge) (xs : List ℕ) : Type 0 where
  -- every sample is written at most once: for one edge, and there in one line, as one sample
  pub once : (i : ℕ) (e f : Edge) → Memᴰ e l → Memᴰ f l → (p : Writes m d c w e i) (q : Writes m d c w f i)
      → (e ≡ f) × (p.spot.line ≡ q.spot.line) × (p.spot.sample ≡ q.spot.sample)
  -- it moves by at most 4 times the largest entry, and an outer sample of luma by at most half that
  pub most : (i : ℕ) → gap_n (get_or (passed m t at d c w l xs) i 0) (get_or xs i 0) ≤ 4 * largest t
  pub outer : c ≡ Luma → (i : ℕ) (e : Edge) → Memᴰ e l → (p : Spot d c w e i) → outer_of p.sample ≡ true → gap_n (get_or (passed m t at d c w l xs) i 0) (get_or xs i 0) ≤ 2 * largest t
  -- a sample that no edge writes stays
  pub still : (i : ℕ) → ((e : Edge) → Memᴰ e l → Writes m d c w e i → ⊥) → get_or (passed m t at d c w l xs) i 0 ≡ get_or xs i 0
  -- and so does every sample of a kept unit
  pub kept : (i : ℕ) → kept_at m (unit_of c w i) ≡ true → get_or (passed m t at d c w l xs) i 0 ≡ get_or xs i 0

-- and of both
pub record Moves (m : Maps) (t : List ℕ) (at : ℕ → ℕ) (c : Component) (w : ℕ) (ups levels : List Edge) (xs : List ℕ) : Type 0 where
  pub ver : PassMoves m t at vertical c w ups xs
  pub hor : PassMoves m t at horizontal c w levels (passed m t at vertical c w ups xs)
  pub both : (i : ℕ) → gap_n (get_or (finished m t at c w ups levels xs) i 0) (get_or xs i 0) ≤ 8 * largest t
  pub still : (i : ℕ) → ((e : Edge) → Memᴰ e ups → Writes m vertical c w e i → ⊥) → ((e : Edge) → Memᴰ e levels → Writes m horizontal c w e i → ⊥)
      → get_or (finished m t at c w ups levels xs) i 0 ≡ get_or xs i 0
  pub kept : (i : ℕ) → kept_at m (unit_of c w i) ≡ true → get_or (finished m t at c w ups levels xs) i 0 ≡ get_or xs i 0
