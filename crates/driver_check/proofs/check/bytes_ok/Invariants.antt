-- `driver_check::check::bytes_ok`: the flag is the test of the first k records.
use Rattle.std.proofs.Common.{◌≡◌, ℕ}
use Rattle.std.specs.Prelude.{leb}
use Rattle.laws.specs.Scan.{all_below}
use Rattle.driver_rules.specs.Records.{byte_at}
use Rattle.driver_check.proofs.check.bytes_ok.Given as goal

abbrev pub invariant-loop-k : goal.invariant-loop-k
invariant-loop-k l = l.ok ≡ all_below (λ (j : ℕ). leb (byte_at l.leaves j l.b) l.m) l.k
