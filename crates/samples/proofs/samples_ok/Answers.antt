-- `samples::samples_ok`: the fold joins all samples.
use Rattle.std.proofs.Common.{rules, ◌≡◌, ap, ◌∙◌, bit_or}
use Rattle.std.specs.List.{fold}
use Rattle.samples.specs.Samples.{sample_ok}
use Rattle.samples.proofs.Joined.{joined_all}
use Rattle.samples.proofs.samples_ok.Goals as goal

pub returns : goal.returns
returns c =
    let e : c.fold.result ≡ fold bit_or 0 c.args.p.now = search rules in
    ap sample_ok e ∙ joined_all 0 c.args.p.now
