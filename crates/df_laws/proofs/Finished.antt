-- Finished planes hold no sample over 1023: what is lent holds none, and a window stores none.
-- Assumes nothing.
use mathlib.Core.Bool.{true}
use mathlib.Core.List.{List}
use mathlib.Core.Path.{◌≡◌, ap, ◌∙◌}
use Prim.Native.Nat.{ℕ, ◌/◌}
use Rattle.def.specs.declared.Component.{Component}
use Rattle.def.specs.declared.Component.TheVariants.{Luma, Chroma}
use Rattle.samples.specs.Samples.{samples_ok}
use Rattle.split.specs.Edges.{vertical, horizontal}
use Rattle.samples.proofs.Samples.{samples_pass}
use Rattle.df_check.proofs.Passed.{passed}
use Rattle.df_rules.specs.Window.{Samples}
use Rattle.df_rules.proofs.Planes.{finished_small}
use Rattle.df_laws.specs.Bands.{Plane, luma_plane, u_plane, v_plane, plane_after}
use Rattle.df.specs.Deblock.{Input, Outcome, checked, pass_edges, qp_y, qp_u, qp_v, maps_of, deblocked, done, outcome}
use Rattle.df_laws.specs.Finished.{Finished}
use Rattle.df_laws.proofs.Demand3.{is_done}
use Rattle.df_laws.proofs.Parted.{whole_fine}

module _ (i : Input) where
  plane_small : (c : Component) (at : ℕ → ℕ) (p : List ℕ) → Samples p → samples_ok (deblocked i c at p) ≡ true
  plane_small c at p s = samples_pass (deblocked i c at p) (λ k h. finished_small (maps_of i) i.strengths at c (i.w / 4) (pass_edges vertical i) (pass_edges horizontal i) p s k)

  small : (outcome i).reading.number ≡ 0 → (x : Plane) → samples_ok (plane_after x (outcome i)) ≡ true
  small e x = ap (λ (o : Outcome). samples_ok (plane_after x o)) (is_done i (whole_fine i e)) ∙ go x where
    go : (z : Plane) → samples_ok (plane_after z (done i)) ≡ true
    go luma_plane = plane_small Luma (qp_y i) i.y (passed (checked i) (whole_fine i e)).y
    go u_plane = plane_small Chroma (qp_u i) i.u (passed (checked i) (whole_fine i e)).u
    go v_plane = plane_small Chroma (qp_v i) i.v (passed (checked i) (whole_fine i e)).v

  pub finished : Finished i
  finished = record { small = small; small_by_bands = λ j x. ap samples_ok (j.planes x) ∙ small j.accepted x }
