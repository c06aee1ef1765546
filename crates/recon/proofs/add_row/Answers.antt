-- `recon::add_row`: a turn stores one sample more of the row.
use Rattle.std.proofs.Common.{rules, arith, ◌∙◌, ◌+◌, get_or, pos, w16}
use Rattle.laws.proofs.Planes.{rowed_none, rowed_more, rowed_all}
use Rattle.laws.proofs.Widths.{back}
use Rattle.samples.proofs.Samples.{sample_any}
use Rattle.recon.proofs.add_row.Goals as goal

pub loop-j-init : goal.loop-j-init
loop-j-init c = rowed_none _ _ _ _

-- the prediction's sample is one
pub reconstructed-requires : goal.reconstructed-requires
reconstructed-requires c = sample_any _ _ c.requires.3

pub loop-j-preserved : goal.loop-j-preserved
loop-j-preserved c = rowed_more _ _ _ _ _ c.loop-j.j _ (omega arith) (c.reconstructed.ensures ∙ rw (back w16 (get_or c.args.coef.now (c.args.from + c.loop-j.j) (pos 0)) (record { sfits = search rules }))) c.loop-j.invariant

pub returns : goal.returns
returns c = rowed_all _ _ _ _ _ _ c.loop-j.j (omega arith) c.loop-j.invariant
