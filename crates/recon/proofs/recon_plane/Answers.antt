-- `recon::recon_plane`: the checks, and then the block, counted in the component.
use Rattle.std.proofs.Common.{sym, ◌∙◌}
use Rattle.std.proofs.lemmas.Result.{err_from_is_err_and}
use Rattle.recon.proofs.Checks.{fitting}
use Rattle.recon.proofs.Outcomes.{plane_refused, plane_done}
use Rattle.recon.proofs.recon_plane.Goals as goal

pub returns-in_err-checked_plane : goal.returns-in_err-checked_plane
returns-in_err-checked_plane c =
    let p = err_from_is_err_and c.from_residual.result c.from_residual.ensures.1 in
    rw (p.1, p.2) (plane_refused _ _ c.checked_plane.ensures _ c.in_err-checked_plane.was)

pub recon_block-requires : goal.recon_block-requires
recon_block-requires c =
    rw (c.in_component-wide.ensures, c.in_component-column.ensures, c.in_component-row.ensures, c.in_component-n.ensures)
    (fitting _ _ _ _ _ _ _ _ _ (sym c.checked_plane.ensures ∙ c.in_ok-checked_plane.was))

pub returns : goal.returns
returns c =
    plane_done _ _ c.checked_plane.ensures _ _ _ _
    c.in_component-wide.ensures c.in_component-column.ensures
    c.in_component-row.ensures c.in_component-n.ensures
    _ c.in_ok-checked_plane.was c.recon_block.ensures
