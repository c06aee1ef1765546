-- `driver::walk::leaf_planes` meets its contract: Y, and U and V where it ended in the residual list. Assumes nothing.
use mathlib.Core.Path.{◌≡◌, ◌∙◌}
use mathlib.Core.List.{[]}
use native.Mathlib.Omega.{arith}
use borrow.Author.Rules.{rules}
use Rattle.driver_rules.specs.Records.{start_u}
use Rattle.driver.specs.Lends.{given_of}
use Rattle.driver.proofs.Leaves.{colour_asked, planes_drawn}
use Rattle.driver.proofs.walk.leaf_planes.Statement.{statement}
use Rattle.driver.proofs.walk.leaf_planes.Tie as tie

-- the states before U and V, after Y, after its bit, and the call's start
abbrev coloured : tie.After-slice_known-6-1 → tie.After-leaf_colour
coloured c = c.before.before.before.before

abbrev drawn : tie.After-leaf_colour-arg-4-1 → tie.After-component-end
drawn c = c.before.before.before.before.before.before

abbrev coded : tie.After-component-arg-3-1 → tie.After-coded_y
coded c = c.before.before.before

abbrev start : tie.After-coded_y → tie.Start
start c = c.before.before.before.before.before.before.before.before.before.before

-- where Y ends
first_end : (c : tie.After-component-end) → let a = c.args in
    c.component-end.result ≡ start_u a.at a.«record».mask a.leaf.side
first_end c = c.component-end.ensures.1 ∙ rw c.coded_y.ensures

component_requires : tie.Need-component-end-requires
component_requires c κs =
    ((c.requires.0.y_asked, c.requires.0.y_lent, rw c.coded_y.ensures (omega (arith, c.requires.1))), (search rules, search rules))

leaf_colour_requires : tie.Need-leaf_colour-requires
leaf_colour_requires c κs =
    let d = drawn c in
    let s = start (coded d.before) in
    (colour_asked s.requires.0.colour, rw (first_end d) s.requires.1)

returns : tie.Need-returns
returns c =
    let k = coloured c in
    let d = drawn k.before in
    let e = coded d.before in
    let a = (start e).args in
    planes_drawn (given_of a.w a.h a.format a.constrained [] a.residual.now a.pred_y.now a.pred_u.now a.pred_v.now) a.leaf a.«record».kind
    a.«record».mask a.at a.words.now a.u.now a.v.now a.y.now e.coded_y.ensures d.component-end.ensures k.leaf_colour.ensures

pub leaf_planes_spec : {M : Type 1} → statement M
leaf_planes_spec =
    tie.close (tie.spec (λ c κs. search rules) component_requires leaf_colour_requires (λ c. search rules) (λ c. search rules) (λ c. search rules) returns)
