-- A keep map of zeros: both engines leave what they leave where no marks are looked at, which is what equality with the Rust reads for. The proof is
-- `unmarked`, in proofs/.
-- Assumes nothing: these are definitions.
use Rattle.std.specs.Prelude.{ℕ, ◌/◌, List, ◌≡◌, get_or}
use Rattle.split.specs.Edges.{vertical, horizontal}
use Rattle.df_rules.specs.Filter.{finished_unmarked}
use Rattle.df_laws.specs.Bands.{state_after, bands, Accepted, Plane, component_of, mapped_as, plane_in, plane_of, plane_after}
use Rattle.df.specs.Deblock.{Input, pass_edges, maps_of, outcome}

abbrev pub Zeros : Input → Type 0
Zeros i = (k : ℕ) → get_or i.keep k 0 ≡ 0

-- a plane after both lists, luma writing all four samples of a line and chroma B and C
abbrev pub plain : Input → Plane → List ℕ
plain i x = finished_unmarked (maps_of i) i.strengths (mapped_as x i) (component_of x) (i.w / 4) (pass_edges vertical i) (pass_edges horizontal i) (plane_in x i)

-- of a picture that the call accepts
pub record Unmarked (i : Input) : Type 0 where
  pub whole : (x : Plane) → plane_after x (outcome i) ≡ plain i x
  pub by_bands : Accepted i → (x : Plane) → plane_of x (state_after i (bands i)) ≡ plain i x
