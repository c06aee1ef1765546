-- `nbr::up_arm` meets its contract: nothing at the picture's edge, and else a start and a stride. Assumes nothing.
use mathlib.Core.Path.{◌∙◌}
use native.Mathlib.Omega.{arith}
use borrow.Author.Rules.{rules}
use Rattle.nbr.proofs.Around.{Frame, framed, up_none, up_made}
use Rattle.nbr.proofs.up_arm.Statement.{statement}
use Rattle.nbr.proofs.up_arm.Tie as tie

-- the block's numbers
frame : (c : tie.After-in_component-row) → let a = c.args in Frame a.block.w a.block.h c.pel2scu-u.result.0 c.pel2scu-v.result.0
    c.in_component-across.result c.in_component-column.result c.in_component-row.result
frame c =
    framed c.args.block.component _ _ _ _ _ _ _ _ _ _ c.requires c.pel2scu-u.ensures c.pel2scu-v.ensures
    c.in_component-across.ensures c.in_component-column.ensures c.in_component-row.ensures

returns : tie.Need-returns-then-v-eq0
returns c =
    c.no_arm.ensures ∙ up_none c.args.block.component _ _ _ _ c.pel2scu-v.ensures c.if-v-eq0.true

sub_flat : tie.Need-overflow_sub-row
sub_flat c = (frame c).above (omega arith)

flat_requires : tie.Need-flat-requires
flat_requires c κs = ((frame c).across, omega (arith, frame c), omega (arith, frame c))

flat_requires_2 : tie.Need-flat-requires-2
flat_requires_2 c κs =
    let f = frame c.before in
    (omega arith, omega arith, omega arith)

sub_t17 : tie.Need-overflow_sub-result
sub_t17 c =
    let f = frame c.before.before in
    omega arith

returns-2 : tie.Need-returns
returns-2 c =
    up_made c.args.block.component _ c.args.block.h _ _ _ _ _ _ _ _ _ c.pel2scu-u.ensures c.pel2scu-v.ensures
    c.in_component-across.ensures c.in_component-column.ensures c.in_component-row.ensures c.if-v-eq0.false
    c.flat.ensures c.flat-2.ensures

pub up_arm_spec : {M : Type 1} → statement M
up_arm_spec =
    tie.close
    (tie.spec
    (λ c κs. search rules)
    (λ c κs. search rules)
    (λ c κs. search rules)
    returns
    (λ c κs. search rules)
    (λ c κs. search rules)
    (λ c κs. search rules)
    sub_flat
    flat_requires
    (λ c. search rules)
    flat_requires_2
    sub_t17
    returns-2)
