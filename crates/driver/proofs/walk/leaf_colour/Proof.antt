-- `driver::walk::leaf_colour` meets its contract: in a grey picture nothing, and in colour U and then V. Assumes nothing.
use Prim.Native.Nat.{◌+◌}
use mathlib.Core.Path.{◌≡◌, ◌∙◌}
use mathlib.Core.List.{[]}
use native.Mathlib.Omega.{arith}
use borrow.Author.Rules.{rules}
use Rattle.def.specs.declared.Component.TheVariants.{Chroma}
use Rattle.driver_rules.specs.Records.{coded_u, residual_count}
use Rattle.driver.specs.Lends.{given_of}
use Rattle.driver.proofs.Leaves.{colour_drawn, colour_none}
use Rattle.driver.proofs.walk.leaf_colour.Statement.{statement}
use Rattle.driver.proofs.walk.leaf_colour.Tie as tie

-- the states after V's bit, after U, after its bit, and the call's start
abbrev v_coded : tie.After-component-arg-6-1 → tie.After-coded_v
v_coded c = c.before.before.before

abbrev u_drawn : tie.After-coded_v → tie.After-component-end
u_drawn c = c.before.before.before

abbrev u_coded : tie.After-component-arg-3-1 → tie.After-coded_u
u_coded c = c.before.before.before

abbrev start : tie.After-coded_u → tie.Start
start c = c.before.before.before.before.before.before.before.before.before

returns : tie.Need-returns-in-Grey
returns c =
    let k = rw c.in-Grey.is at c.requires.0 in
    colour_none _ _ _ _ _ _ _ _ k.u_long k.v_long k.masked

-- where U ends
first_end : (c : tie.After-component-end) → let a = c.args in
    c.component-end.result ≡ a.at + residual_count Chroma (coded_u a.«record».mask) a.leaf.side
first_end c = c.component-end.ensures.1 ∙ rw c.coded_u.ensures

component_requires : tie.Need-component-end-requires
component_requires c κs =
    let e = c.in_default.is in
    ((c.requires.0.u_asked e, c.requires.0.u_lent e, rw c.coded_u.ensures (omega (arith, c.requires.1))), (search rules, search rules))

component_requires_2 : tie.Need-component-requires
component_requires_2 c κs =
    let e = c.in_default.is in (
      (
        c.requires.0.v_asked e,
        c.requires.0.v_lent e,
        rw (c.coded_v.ensures, first_end c.before.before.before.before.before.before) c.requires.1,
      ),
      (search rules, search rules),
    )

returns-2 : tie.Need-returns
returns-2 c =
    let v = v_coded c.before.before.before in
    let u = u_drawn v in
    let d = u_coded u.before in
    let a = (start d).args in
    colour_drawn (given_of a.w a.h a.format a.constrained [] a.residual.now [] a.pred_u.now a.pred_v.now) a.leaf a.«record».kind a.«record».mask
    a.at a.words.now a.u.now a.v.now d.coded_u.ensures v.coded_v.ensures u.component-end.ensures c.component.ensures

pub leaf_colour_spec : {M : Type 1} → statement M
leaf_colour_spec =
    tie.close
    (tie.spec (λ c. search rules) returns (λ c. search rules) (λ c κs. search rules) component_requires (λ c κs. search rules) component_requires_2
    (λ c. search rules) (λ c. search rules) returns-2)
