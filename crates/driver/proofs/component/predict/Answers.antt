-- `driver::component::predict`: the run is a part of the room, as long as the side asks, and neither call is refused.
use Rattle.std.proofs.Common.{rules, arith, ◌≤◌, ◌∙◌, length-take}
use Rattle.driver_rules.proofs.Calls.{gathered_ok, predicted_ok, predicted_from}
use Rattle.driver_rules.proofs.Components.{side_short}
use Rattle.driver.proofs.component.predict.Goals as goal

pub overflow_mul-long : goal.overflow_mul-long
overflow_mul-long c =
    let short : c.in_component-n.result ≤ 64 = rw c.in_component-n.ensures (side_short c.args.block.component _ _ _ _ _ c.requires.0.block) in
    omega (arith, short)

pub overflow_add-long : goal.overflow_add-long
overflow_add-long c =
    let short : c.in_component-n.result ≤ 64 = rw c.in_component-n.ensures (side_short c.args.block.component _ _ _ _ _ c.requires.0.block) in
    omega (arith, short)

pub slice_bounds-run-end : goal.slice_bounds-run-end
slice_bounds-run-end c =
    let short : c.in_component-n.result ≤ 64 = rw c.in_component-n.ensures (side_short c.args.block.component _ _ _ _ _ c.requires.0.block) in
    omega (arith, short, c.requires.3)

pub unwrap-requires : goal.unwrap-requires
unwrap-requires c =
    let short : c.in_component-n.result ≤ 64 = rw c.in_component-n.ensures (side_short c.args.block.component _ _ _ _ _ c.requires.0.block) in
    let e = gathered_ok _ c.requires.0 _ _ c.get_nbr.result (simp length-take (omega (arith, c.requires.3, short, c.in_component-n.ensures))) c.get_nbr.ensures in
    rw e (search rules)

pub unwrap-requires-2 : goal.unwrap-requires-2
unwrap-requires-2 c =
    let short : c.in_component-n.result ≤ 64 = rw c.in_component-n.ensures (side_short c.args.block.component _ _ _ _ _ c.requires.0.block) in
    let e = predicted_ok _ c.requires.0 _ _ c.requires.1 c.in_component-n.ensures _ _ _ _ _ 0 c.ipred_b.result
    (simp length-take (omega (arith, c.requires.3, short, c.in_component-n.ensures))) c.requires.2 c.get_nbr.ensures c.ipred_b.ensures in
    rw e (search rules)

pub returns : goal.returns
returns c =
    let short : c.in_component-n.result ≤ 64 = rw c.in_component-n.ensures (side_short c.args.block.component _ _ _ _ _ c.requires.0.block) in
    predicted_from _ c.requires.0 _ _ c.requires.1 c.in_component-n.ensures _ _ _ _ _ _
    (simp length-take (omega (arith, c.requires.3, short, c.in_component-n.ensures))) c.requires.2
    c.get_nbr.ensures c.ipred_b.ensures
    ∙ rw c.in_component-n.ensures
