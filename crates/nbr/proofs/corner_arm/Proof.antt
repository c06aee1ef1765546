-- `nbr::corner_arm` meets its contract: nothing at the picture's edges, and else the place of one sample. Assumes nothing.
use mathlib.Core.Path.{◌∙◌}
use native.Mathlib.Omega.{arith}
use borrow.Author.Rules.{rules}
use Rattle.nbr.proofs.Around.{Frame, framed, corner_none, Cornered, cornered, corner_made}
use Rattle.nbr.proofs.corner_arm.Statement.{statement}
use Rattle.nbr.proofs.corner_arm.Tie as tie

-- the block's numbers
frame : (c : tie.After-in_component-row) → let a = c.args in Frame a.block.w a.block.h c.pel2scu-u.result.0 c.pel2scu-v.result.0
    c.in_component-across.result c.in_component-column.result c.in_component-row.result
frame c =
    framed c.args.block.component _ _ _ _ _ _ _ _ _ _ c.requires c.pel2scu-u.ensures c.pel2scu-v.ensures
    c.in_component-across.ensures c.in_component-column.ensures c.in_component-row.ensures

-- it has a corner
some : (c : tie.After-in_component-row) → Cornered c.pel2scu-u.result.0 c.pel2scu-v.result.0
some c = cornered _ _ c.if-u-v.false

returns : tie.Need-returns-then-u-v
returns c =
    c.no_arm.ensures ∙ corner_none c.args.block.component _ _ _ _ _ c.pel2scu-u.ensures c.pel2scu-v.ensures c.if-u-v.true

sub_flat : tie.Need-overflow_sub-column
sub_flat c = (frame c).left (some c).some_left

sub_flat_2 : tie.Need-overflow_sub-row
sub_flat_2 c = (frame c).above (some c).some_above_lem

flat_requires : tie.Need-flat-requires
flat_requires c κs = ((frame c).across, omega (arith, frame c), omega (arith, frame c))

flat_requires_2 : tie.Need-flat-requires-2
flat_requires_2 c κs =
    let f = frame c.before in
    (omega arith, omega arith, omega arith)

returns-2 : tie.Need-returns
returns-2 c =
    corner_made c.args.block.component _ c.args.block.h _ _ _ _ _ _ _ _ _ c.pel2scu-u.ensures c.pel2scu-v.ensures
    c.in_component-across.ensures c.in_component-column.ensures c.in_component-row.ensures (some c.before.before).right (some c.before.before).down
    c.flat.ensures c.flat-2.ensures

pub corner_arm_spec : {M : Type 1} → statement M
corner_arm_spec =
    tie.close
    (tie.spec
    (λ c κs. search rules)
    (λ c κs. search rules)
    (λ c κs. search rules)
    returns
    (λ c κs. search rules)
    (λ c κs. search rules)
    (λ c κs. search rules)
    sub_flat
    sub_flat_2
    flat_requires
    (λ c. (some c.before).some_left)
    (λ c. (some c.before).some_above_lem)
    flat_requires_2
    returns-2)
