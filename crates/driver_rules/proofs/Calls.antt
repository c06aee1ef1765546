-- What the calls of `nbr`, `ipred` and `recon` leave, from their contracts: none of them is refused.
--     predicted_from    gathering, and the mode
--     drawn_from    the prediction, and the residual into the plane
--     gathered_ok, predicted_ok, drawn_ok    their answers
--     check_is    the answer of `split::check`
-- Assumes nothing.
use Rattle.std.specs.Prelude.{Ok, Err}
use Prim.Native.Nat.{ℕ, ◌≤◌}
use mathlib.Core.Path.{◌≡◌, refl, sym, ap, ◌∙◌}
use mathlib.Core.Bool.{Bool}
use mathlib.Core.List.{List}
use lib.IntN.{ℤ}
use lib.ListN.{length}
use Rattle.def.specs.Answers.{answer_number, after_checks}
use Rattle.def.specs.Refusals.{number_of}
use Rattle.def.specs.Answers.{Answer}
use Rattle.def.proofs.Answers.{answer_apart}
use Rattle.def.proofs.Blocks.{blocked}
use Rattle.def.proofs.Sides.{side_in_component}
use Rattle.ipred.specs.Modes.{predicted, block_of}
use Rattle.ipred.specs.Predict as ipred
use Rattle.ipred.proofs.Promises.{predicts}
use Rattle.nbr.specs.Gather as nbr
use Rattle.nbr.specs.Gather.{Around, side_of, run_of, run_length}
use Rattle.nbr.proofs.Runs.{run_long}
use Rattle.recon.specs.Plane as recon
use Rattle.recon.specs.Recon.{Outcome}
use Rattle.recon.proofs.Promises.{reconstructs_plane}
use Rattle.split.specs.CheckCall as check-call
use Rattle.driver_rules.specs.Asked.{BlockAsked, LentAsked}
use Rattle.driver_rules.specs.Records.{sample_count}
use Rattle.driver_rules.specs.Steps.{prediction_of, plane_of}
use Rattle.driver_rules.proofs.Components.{gathers_block, run_good, prediction_long, prediction_small}

module _ (a : Around) (k : BlockAsked a) where
  pub gathered_ok : (run₀ run₁ : List ℕ) (r : Answer) → length run₀ ≡ run_length a.component a.side
      → ◌≡◌ {A = nbr.Outcome} (record { number = answer_number r; run = run₁ }) (nbr.outcome (record { around = a; run = run₀ })) → r ≡ Ok tt
  gathered_ok run₀ run₁ r long g = answer_apart r (Ok tt) (ap (λ (o : nbr.Outcome). o.number) (g ∙ gathers_block a k run₀ long))

  module _ (mode n : ℕ) (small : mode ≤ 4) (side : n ≡ side_of a.component a.side) (run₀ run₁ pred₀ pred₁ : List ℕ) (i j : ℕ) where
    pub predicted_from : length run₀ ≡ run_length a.component a.side → length pred₀ ≡ sample_count a.component a.side
        → ◌≡◌ {A = nbr.Outcome} (record { number = i; run = run₁ }) (nbr.outcome (record { around = a; run = run₀ }))
        → ◌≡◌ {A = ipred.Outcome} (record { number = j; block = pred₁ }) (ipred.outcome (record { mode = mode; side = n; run = run₁; block = pred₀ }))
        → pred₁ ≡ block_of n (predicted mode n (run_of a))
    predicted_from long room g p =
        let e : run₁ ≡ run_of a = ap (λ (o : nbr.Outcome). o.run) (g ∙ gathers_block a k run₀ long) in
        let q = rw (e, side) at p in
        let done = predicts (record { mode = mode; side = side_of a.component a.side; run = run_of a; block = pred₀ })
        (side_in_component a.component a.side (blocked _ _ _ _ _ k.block).side_ok) (run_long a) room small (run_good a k) in
        rw side (ap (λ (o : ipred.Outcome). o.block) (q ∙ sym done))

    pub predicted_ok : (r : Answer) → length run₀ ≡ run_length a.component a.side → length pred₀ ≡ sample_count a.component a.side
        → ◌≡◌ {A = nbr.Outcome} (record { number = i; run = run₁ }) (nbr.outcome (record { around = a; run = run₀ }))
        → ◌≡◌ {A = ipred.Outcome} (record { number = answer_number r; block = pred₁ }) (ipred.outcome (record { mode = mode; side = n; run = run₁; block = pred₀ }))
        → r ≡ Ok tt
    predicted_ok r long room g p =
        let e : run₁ ≡ run_of a = ap (λ (o : nbr.Outcome). o.run) (g ∙ gathers_block a k run₀ long) in
        let q = rw (e, side) at p in
        let done = predicts (record { mode = mode; side = side_of a.component a.side; run = run_of a; block = pred₀ })
        (side_in_component a.component a.side (blocked _ _ _ _ _ k.block).side_ok) (run_long a) room small (run_good a k) in
        answer_apart r (Ok tt) (ap (λ (o : ipred.Outcome). o.number) (q ∙ sym done))

  pub drawn_from : (lent : List ℕ) → LentAsked a.component a.w a.h lent → (kind : ℕ) (coded : Bool) (coef : List ℤ) (pred₁ plane₁ : List ℕ)
      (i : ℕ) → length coef ≡ sample_count a.component a.side
      → pred₁ ≡ prediction_of a kind lent
      → ◌≡◌ {A = Outcome} (record { number = i; rec = plane₁ })
      (recon.outcome (record { component = a.component; w = a.w; h = a.h; x = a.x; y = a.y; side = a.side; coded = coded; pred = pred₁; coef = coef; rec = a.plane }))
      → plane₁ ≡ plane_of a kind lent coded coef
  unfolding plane_of
  drawn_from lent l kind coded coef pred₁ plane₁ i long e p =
      let input : recon.Input = record {
        component = a.component;
        w = a.w;
        h = a.h;
        x = a.x;
        y = a.y;
        side = a.side;
        coded = coded;
        pred = prediction_of a kind lent;
        coef = coef;
        rec = a.plane;
      } in
      let q = rw e at p in
      let done = reconstructs_plane input k.size k.plane_long k.block (prediction_long a lent kind) long (prediction_small a k lent l kind) in
      ap (λ (o : Outcome). o.rec) (q ∙ sym done)

  pub drawn_ok : (lent : List ℕ) → LentAsked a.component a.w a.h lent → (kind : ℕ) (coded : Bool) (coef : List ℤ) (pred₁ plane₁ : List ℕ)
      (r : Answer) → length coef ≡ sample_count a.component a.side
      → pred₁ ≡ prediction_of a kind lent
      → ◌≡◌ {A = Outcome} (record { number = answer_number r; rec = plane₁ })
      (recon.outcome (record { component = a.component; w = a.w; h = a.h; x = a.x; y = a.y; side = a.side; coded = coded; pred = pred₁; coef = coef; rec = a.plane }))
      → r ≡ Ok tt
  drawn_ok lent l kind coded coef pred₁ plane₁ r long e p =
      let input : recon.Input = record {
        component = a.component;
        w = a.w;
        h = a.h;
        x = a.x;
        y = a.y;
        side = a.side;
        coded = coded;
        pred = prediction_of a kind lent;
        coef = coef;
        rec = a.plane;
      } in
      let q = rw e at p in
      let done = reconstructs_plane input k.size k.plane_long k.block (prediction_long a lent kind) long (prediction_small a k lent l kind) in
      answer_apart r (Ok tt) (ap (λ (o : Outcome). o.number) (q ∙ sym done))

-- ---- the walk's answer

numbered : (k : Answer) → after_checks (λ r. check-call.numbered (number_of r)) (check-call.numbered 0) k ≡ check-call.numbered (answer_number k)
numbered (Ok _) = refl
numbered (Err r) = refl

pub check_is : (i : check-call.Input) (r : Answer) → check-call.numbered (answer_number r) ≡ check-call.outcome i → r ≡ check-call.check i
unfolding check-call.outcome
check_is i r e = answer_apart r (check-call.check i) (ap (λ (o : check-call.Outcome). o.number) (e ∙ numbered (check-call.check i)))
