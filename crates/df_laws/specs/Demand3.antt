-- Demand 3 over the promise of `deblock`: what is proved of every input that its checks accept. Its proof is `kept`, in proofs/.
-- What is visited, each edge once, no other, in the order of the walk, and the planes row by row, is `Demand3` of `df_rules`, which has `Demand3` of `split` as a field.
-- Assumes nothing: these are definitions.
use Rattle.std.specs.Prelude.{ℕ, ◌/◌, List, ◌≡◌, eqb, length}
use Rattle.def.specs.declared.Component.{Component}
use Rattle.def.specs.declared.Component.TheVariants.{Luma, Chroma}
use Rattle.split.specs.Edges.{vertical, horizontal}
use Rattle.split.specs.Rows.{row_list}
use Rattle.df_rules.specs.Demand3.{Demand3}
use Rattle.df_rules.specs.Filter.{finished}
use Rattle.df.specs.Deblock.{Input, pass_edges, qp_y, qp_u, qp_v, maps_of, outcome}

-- a plane after filtering the same edges row by row, left to right, all vertical edges first
abbrev pub by_rows : Input → Component → (ℕ → ℕ) → List ℕ → List ℕ
by_rows i c at p =
    let halved = eqb i.settings.limit 5 in
    let w = i.w / 4 in
    let h = i.h / 4 in
    finished (maps_of i) i.strengths at c w (row_list vertical halved i.splits w h) (row_list horizontal halved i.splits w h) p

pub record Kept (i : Input) : Type 0 where
  -- which edges, each once, no other, in which order; and that the order row by row leaves the same planes
  pub edges : Demand3 (eqb i.settings.limit 5) i.splits (i.w / 4) (i.h / 4)
  -- the counts are the lengths of the two lists
  pub vertical_count_lem : (outcome i).reading.vertical ≡ length (pass_edges vertical i)
  pub horizontal_count_lem : (outcome i).reading.horizontal ≡ length (pass_edges horizontal i)
  -- the finished planes
  pub y : (outcome i).y ≡ by_rows i Luma (qp_y i) i.y
  pub u : (outcome i).u ≡ by_rows i Chroma (qp_u i) i.u
  pub v : (outcome i).v ≡ by_rows i Chroma (qp_v i) i.v
