-- `driver_check::check::bytes_ok`: a turn tests one record more.
use Rattle.std.proofs.Common.{arith, ◌≡◌, sym, ◌∙◌}
use Rattle.laws.proofs.Scans.{scan_none}
use Rattle.laws.proofs.ScanAll.{scan_step}
use Rattle.driver_rules.specs.Records.{bytes_ok}
use Rattle.driver_check.proofs.check.bytes_ok.Goals as goal

pub loop-k-init : goal.loop-k-init
loop-k-init c = sym (scan_none _)

pub loop-k-preserved : goal.loop-k-preserved
loop-k-preserved c = rw c.loop-k.invariant (sym (scan_step _ _))

pub returns : goal.returns
unfolding bytes_ok
returns c =
    let e : c.loop-k.k ≡ c.args.n = omega arith in
    c.loop-k.invariant ∙ rw e
