-- After i turns what is joined passes where the first i samples do. Assumes nothing.
use Rattle.std.proofs.Common.{ℕ, ◌≡◌, ◌∙◌, ◌+◌, ◌*◌, sym, ap, arith}
use Rattle.laws.specs.Scan.{all_below}
use Rattle.laws.proofs.Scans.{scan_none}
use Rattle.laws.proofs.ScanAll.{scan_step}
use Rattle.samples.specs.Samples.{sample_ok}
use Rattle.samples.proofs.Samples.{joined}
use Rattle.y4m_rules.specs.Frames.{sample_at}
use Rattle.y4m_rules.proofs.Runs.{scan_plane}
use Rattle.y4m_frame.proofs.bytes.plane_ok.Goals as goal

pub loop-i-init : goal.loop-i-init
loop-i-init c = sym (scan_none _)

pub loop-i-preserved : goal.loop-i-preserved
loop-i-preserved c = let h = c.loop-i in joined h.all _ ∙ rw (h.invariant, c.sample-all.ensures) (sym (scan_step _ _))

pub returns : goal.returns
returns c =
    let h = c.loop-i in
    let a = c.args in
    let e : h.i ≡ a.n = omega arith in
    h.invariant ∙ ap (all_below (λ (k : ℕ). sample_ok (sample_at a.s.now (a.from + 2 * k)))) e ∙ scan_plane a.s.now a.from a.n
