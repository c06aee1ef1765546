-- `ipred::ipred_b` meets its contract: the side, the lengths, and then what is left of the rule. Assumes nothing.
use mathlib.Core.Path.{◌≡◌, sym, ◌∙◌}
use mathlib.Core.Bool.{true}
use borrow.Author.Rules.{rules}
use Rattle.def.specs.Blocks.{component_side_ok}
use Rattle.def.proofs.Sides.{component_side}
use Rattle.ipred.proofs.Outcomes.{side_refused, length_refused, goes_to_data, lent}
use Rattle.ipred.proofs.ipred_b.Statement.{statement}
use Rattle.ipred.proofs.ipred_b.Tie as tie

-- a side that passed
side_at : (c : tie.Else-not-component_side_ok) → component_side_ok c.args.side ≡ true
side_at c = sym c.component_side_ok.ensures ∙ c.if-not-component_side_ok.false

returns : tie.Need-returns-then-not-component_side_ok
returns c = side_refused _ _ c.component_side_ok.ensures c.if-not-component_side_ok.true-raw

lengths_ok_requires : tie.Need-lengths_ok-requires
lengths_ok_requires c κs = (component_side _ (side_at c)).most

returns-2 : tie.Need-returns-then-not-lengths_ok
returns-2 c =
    length_refused _ _ c.component_side_ok.ensures c.if-not-component_side_ok.false-raw _ c.lengths_ok.ensures c.if-not-lengths_ok.true-raw

predict_requires : tie.Need-predict-requires
predict_requires c κs =
    let side = side_at c.before.before.before in
    (lent _ _ _ side (sym c.lengths_ok.ensures ∙ c.if-not-lengths_ok.false), side)

returns-3 : tie.Need-returns
returns-3 c =
    goes_to_data _ _ c.component_side_ok.ensures c.if-not-component_side_ok.false-raw _ c.lengths_ok.ensures _ c.if-not-lengths_ok.false-raw c.predict.ensures

pub ipred_b_spec : {M : Type 1} → statement M
ipred_b_spec =
    tie.close
    (tie.spec (λ c κs. search rules) returns lengths_ok_requires returns-2 predict_requires (λ c. search rules) returns-3)
