-- `line::counted_far` meets its contract: what its callees answer, read back from the bits. Assumes nothing.
use mathlib.Core.Path.{◌∙◌}
use borrow.Author.Rules.{rules}
use mir.Syntax.{w8, w16}
use Rattle.laws.proofs.Widths.{back}
use Rattle.line.specs.Row.{far, counted_as}
use Rattle.line.proofs.counted_far.Statement.{statement}
use Rattle.line.proofs.counted_far.Tie as tie

returns : tie.Need-returns
returns c =
    let q = back w16 _ (record { sfits = c.component.type_inv }) ∙ c.component.ensures ∙ (λ i. counted_as (back w8 _ c.ranges.rq i) (back w16 _ c.ranges.q i)) in
    let p = back w16 _ (record { sfits = c.component-2.type_inv }) ∙ c.component-2.ensures ∙ (λ i. counted_as (back w8 _ c.ranges.rp i) (back w16 _ c.ranges.p i)) in
    c.is_far.ensures ∙ (λ i. far (q i) (p i))

pub counted_far_spec : {M : Type 1} → statement M
counted_far_spec = tie.close (tie.spec (λ c κs. search rules) (λ c κs. search rules) (λ c κs. search rules) returns)
