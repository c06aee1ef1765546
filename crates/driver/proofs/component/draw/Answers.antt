-- `driver::component::draw`: the prediction is a part of the room, and then the residual is added; the call is not refused.
use Rattle.std.proofs.Common.{rules, arith}
use Rattle.driver_rules.proofs.Calls.{drawn_ok, drawn_from}
use Rattle.driver_rules.proofs.Components.{samples_few}
use Rattle.driver.proofs.component.draw.Goals as goal

-- the room holds any block's prediction
pub slice_bounds-pred-end : goal.slice_bounds-pred-end
slice_bounds-pred-end c = omega (arith, c.requires.block_asked.2, c.requires.run_len.1, samples_few c.args.block.component _ _ _ _ _ c.requires.block_asked.0.block)

pub unwrap-requires : goal.unwrap-requires
unwrap-requires c =
    let e = drawn_ok _ c.requires.block_asked.0 _ c.requires.block_asked.1 c.args.kind _ _ _ _ c.recon_plane.result c.requires.block_asked.2
    c.prediction.ensures c.recon_plane.ensures in
    rw e (search rules)

pub returns : goal.returns
returns c =
    drawn_from _ c.requires.block_asked.0 _ c.requires.block_asked.1 c.args.kind _ _ _ _ _ c.requires.block_asked.2
    c.prediction.ensures c.recon_plane.ensures
