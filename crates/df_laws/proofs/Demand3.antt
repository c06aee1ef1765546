-- Demand 3 holds of every input that the checks of `deblock` accept.
-- Assumes nothing.
use Rattle.std.specs.Prelude.{Ok}
use mathlib.Core.Path.{◌≡◌, ap, ◌∙◌}
use lib.Dec.{eqb}
use Rattle.def.specs.declared.Component.TheVariants.{Luma, Chroma}
use Rattle.df_rules.proofs.Finished.{accepted_demand_3}
use Rattle.df.specs.Deblock.{Input, Outcome, qp_y, qp_u, qp_v, maps_of, check, done, outcome}
use Rattle.df_laws.specs.Demand3.{Kept}
use Rattle.df.proofs.Calls.{accepted}

pub is_done : (i : Input) → check i ≡ Ok tt → outcome i ≡ done i
unfolding outcome
is_done i fine = rw fine

pub kept : (i : Input) → check i ≡ Ok tt → Kept i
kept i fine =
    let d = accepted_demand_3 (eqb i.settings.limit 5) i.splits i.w i.h (accepted i fine) in
    let e = is_done i fine in
    record {
      edges = d;
      vertical_count_lem = ap (λ (o : Outcome). o.reading.vertical) e;
      horizontal_count_lem = ap (λ (o : Outcome). o.reading.horizontal) e;
      y = ap (λ (o : Outcome). o.y) e ∙ d.planes (maps_of i) i.strengths (qp_y i) Luma i.y;
      u = ap (λ (o : Outcome). o.u) e ∙ d.planes (maps_of i) i.strengths (qp_u i) Chroma i.u;
      v = ap (λ (o : Outcome). o.v) e ∙ d.planes (maps_of i) i.strengths (qp_v i) Chroma i.v;
    }
