-- After i turns the bytes of the first i samples are there. Assumes nothing.
use Rattle.std.proofs.Common.{◌≡◌, refl, ap, length, arith}
use lib.ListN.{length-set}
use lib.Seq.{take_all}
use Rattle.edges.proofs.Puts.{put_as}
use Rattle.y4m_rules.specs.Frames.{bytes_of}
use Rattle.y4m_rules.proofs.Runs.{put_start, put_sample}
use Rattle.y4m_frame_out.proofs.bytes.put_plane.Goals as goal

pub loop-i-init : goal.loop-i-init
loop-i-init c = (refl, put_start c.args.plane.now _ _)

pub overflow_cast-out-in-loop-i : goal.overflow_cast-out-in-loop-i
overflow_cast-out-in-loop-i c = omega (arith, c.type_inv.plane c.loop-i.i)

pub loop-i-preserved : goal.loop-i-preserved
loop-i-preserved c =
    let l = c.loop-i in
    (simp length-set l.invariant.0, put_sample _ _ _ _ l.i (omega arith) l.invariant.1)

pub returns : goal.returns
returns c =
    let l = c.loop-i in
    let e : l.i ≡ length c.args.plane.now = omega arith in
    put_as (ap bytes_of (take_all (length c.args.plane.now) _ (omega arith))) (rw e at l.invariant.1)
