-- `nbr::border_of` meets its contract: the three arms, and a unit's side in the component's samples. Assumes nothing.
use mathlib.Core.Path.{refl, ◌∙◌}
use borrow.Author.Rules.{rules}
use Rattle.nbr.proofs.Sides.{unit_scaled}
use Rattle.nbr.proofs.border_of.Statement.{statement}
use Rattle.nbr.proofs.border_of.Tie as tie

returns : tie.Need-returns
returns c =
    record {
      left = c.left_arm-left.ensures;
      corner = c.corner_arm-corner.ensures;
      up = c.up_arm-up.ensures;
      units = refl;
      n = c.in_component-n.ensures ∙ unit_scaled c.args.block.component;
    }

pub border_of_spec : {M : Type 1} → statement M
border_of_spec = tie.close (tie.spec (λ c κs. search rules) (λ c κs. search rules) (λ c κs. search rules) (λ c κs. search rules) returns)
