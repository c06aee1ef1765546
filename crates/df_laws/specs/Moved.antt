-- How far deblocking can move a sample, by both engines: the whole picture at once, and band by band. The proofs are `moved` and `moved_bands`.
-- What one pass and both passes do over any lists of edges is `PassMoves` and `Moves` of `df_rules`.
-- Assumes nothing: these are definitions.
use Rattle.std.specs.Prelude.{ℕ, ◌*◌, ◌/◌, ◌≤◌, true, ◌≡◌, eqb, get_or}
use mathlib.Core.List.{List, Memᴰ}
use Rattle.laws.specs.Sign.{gap_n}
use Rattle.split.specs.Edges.{Pass, vertical, horizontal, Edge}
use Rattle.df_rules.specs.Moves.{largest, Writes, unit_of, Moves}
use Rattle.df_rules.specs.Strength.{kept_at}
use Rattle.bands_rules.specs.Bands.{band_list, joined}
use Rattle.df_laws.specs.Bands.{state_after, Plane, component_of, mapped_as, plane_in, plane_of, plane_after}
use Rattle.df.specs.Deblock.{Input, pass_edges, maps_of, outcome}

-- no edge of a list writes place k of a plane
abbrev pub Untouched : Input → Plane → Pass → List Edge → ℕ → Type 0
Untouched i x d l k = (e : Edge) → Memᴰ e l → Writes (maps_of i) d (component_of x) (i.w / 4) e k → ⊥

-- place k of a plane lies in a kept unit
abbrev pub InKept : Input → Plane → ℕ → Type 0
InKept i x k = kept_at (maps_of i) (unit_of (component_of x) (i.w / 4) k) ≡ true

-- what filtering two lists of edges, one after the other, does to a plane
abbrev pub MovesIn : Input → Plane → (ups levels : List Edge) → Type 0
MovesIn i x ups levels = Moves (maps_of i) i.strengths (mapped_as x i) (component_of x) (i.w / 4) ups levels (plane_in x i)

-- of a picture that the call accepts
pub record Moved (i : Input) : Type 0 where
  -- each pass by itself, and both: every sample is written at most once in a pass, and how far it moves there
  pub passes : (x : Plane) → MovesIn i x (pass_edges vertical i) (pass_edges horizontal i)
  -- no sample moves by more than 8 times the largest entry
  pub most : (x : Plane) (k : ℕ) → gap_n (get_or (plane_after x (outcome i)) k 0) (get_or (plane_in x i) k 0) ≤ 8 * largest i.strengths
  -- a sample that no visited edge writes is as it was: one outside all windows, and one of chroma that is outer in every window that holds it
  pub still : (x : Plane) (k : ℕ) → Untouched i x vertical (pass_edges vertical i) k → Untouched i x horizontal (pass_edges horizontal i) k
      → get_or (plane_after x (outcome i)) k 0 ≡ get_or (plane_in x i) k 0
  -- and so is every sample of a kept unit
  pub kept : (x : Plane) (k : ℕ) → InKept i x k → get_or (plane_after x (outcome i)) k 0 ≡ get_or (plane_in x i) k 0

-- a pass's edges of the first n bands
abbrev pub first_edges : Input → Pass → ℕ → List Edge
first_edges i d n = joined (band_list d (eqb i.settings.limit 5) i.splits (i.w / 4) (i.h / 4)) n

-- of a picture that is done by bands, after its first n: the same, over the edges of those bands
pub record MovedBands (i : Input) (n : ℕ) : Type 0 where
  pub passes : (x : Plane) → MovesIn i x (first_edges i vertical n) (first_edges i horizontal n)
  pub most : (x : Plane) (k : ℕ) → gap_n (get_or (plane_of x (state_after i n)) k 0) (get_or (plane_in x i) k 0) ≤ 8 * largest i.strengths
  pub still : (x : Plane) (k : ℕ) → Untouched i x vertical (first_edges i vertical n) k → Untouched i x horizontal (first_edges i horizontal n) k
      → get_or (plane_of x (state_after i n)) k 0 ≡ get_or (plane_in x i) k 0
  pub kept : (x : Plane) (k : ℕ) → InKept i x k → get_or (plane_of x (state_after i n)) k 0 ≡ get_or (plane_in x i) k 0
