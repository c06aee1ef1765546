-- `driver::component::draw_uncoded` meets its contract: the prediction is a part of the room, and is laid as it is. Assumes nothing.
use Prim.Native.Nat.{ℕ}
use mathlib.Core.List.{List}
use mathlib.Core.Path.{ap, ◌∙◌}
use native.Mathlib.Omega.{arith}
use borrow.Author.Rules.{rules}
use lib.ListN.{length, length-take}
use Rattle.driver_rules.specs.Steps.{plane_of}
use Rattle.driver_rules.proofs.Components.{samples_few, prediction_long}
use Rattle.driver.specs.Blocks.{laid_of}
use Rattle.driver.proofs.component.draw_uncoded.Statement.{statement}
use Rattle.driver.proofs.component.draw_uncoded.Tie as tie

-- the room holds any block's prediction
fits : tie.Need-slice_bounds-pred-end
fits c = omega (arith, c.requires.0.2, c.requires.1.1, samples_few c.args.block.component _ _ _ _ _ c.requires.0.0.block)

prediction_requires : tie.Need-prediction-requires
prediction_requires c κs =
    (c.requires.0.0, c.requires.0.1, simp length-take (omega (arith, c.requires.0.2, c.requires.1.1, samples_few c.args.block.component _ _ _ _ _ c.requires.0.0.block)), c.requires.1.0)

lay_requires : tie.Need-lay-requires
lay_requires c κs = (
  record { size = c.requires.0.0.size; block = c.requires.0.0.block },
  c.requires.0.0.plane_long,
  ap length c.prediction.ensures ∙ prediction_long _ _ c.args.kind,
)

returns : tie.Need-returns
unfolding plane_of
returns c =
    c.lay.ensures ∙ ap (λ (p : List ℕ). laid_of c.args.block p c.args.plane.now)
    c.prediction.ensures

pub draw_uncoded_spec : {M : Type 1} → statement M
draw_uncoded_spec =
    tie.close
    (tie.spec (λ c. search rules) (λ c. search rules) fits prediction_requires lay_requires (λ c. search rules) (λ c. search rules) (λ c. search rules) returns)
