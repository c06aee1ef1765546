-- `chroma_qp_check::points_ok`: a scan of the a that count.
use Rattle.std.proofs.Common.{rules, arith, ◌≡◌, ℕ, ◌≤◌, ◌<◌, sym, true, false, List, ℤ, pos, get_or}
use borrow.Author.Tests.{le-leb, lt-leb}
use lib.Signed.{le_z}
use Rattle.laws.specs.Scan.{all_below}
use Rattle.laws.proofs.Calls.{all_fails}
use Rattle.laws.proofs.Scans.{scan_none, scan_more, scan_stop}
use Rattle.chroma_qp_check.specs.Check.{points_ok, point_tests}
use Rattle.chroma_qp_check.proofs.Bytes.{byte_sign}
use Rattle.chroma_qp_check.proofs.points_ok.Goals as goal

module _ (count : ℕ) (a : List ℤ) where
  too_few : count < 1 → false ≡ points_ok count a
  unfolding points_ok
  too_few h = sym (all_fails (point_tests count a) 0 (lt-leb 1 count h))

  too_many : 58 < count → false ≡ points_ok count a
  unfolding points_ok
  too_many h = sym (all_fails (point_tests count a) 1 (lt-leb count 58 h))

  below_zero : (j : ℕ) → j < count → le_z (pos 0) (get_or a j (pos 0)) ≡ false → false ≡ points_ok count a
  unfolding points_ok
  below_zero j h e = sym (all_fails (point_tests count a) 2 (scan_stop _ count j h e))

  passed : 1 ≤ count → count ≤ 58 → all_below (λ (k : ℕ). le_z (pos 0) (get_or a k (pos 0))) count ≡ true → true ≡ points_ok count a
  unfolding points_ok
  passed h k e = rw (le-leb 1 count h, le-leb count 58 k, e)

pub returns-then-count-lt1 : goal.returns-then-count-lt1
returns-then-count-lt1 c = too_few _ _ (omega arith)

pub returns-then-count-gt58 : goal.returns-then-count-gt58
returns-then-count-gt58 c = too_many _ _ (omega arith)

pub loop-j-init : goal.loop-j-init
loop-j-init c = scan_none _

pub returns-then-a-j-lt0 : goal.returns-then-a-j-lt0
returns-then-a-j-lt0 c =
    below_zero _ _ c.loop-j.j (omega arith)
    (byte_sign (get_or c.args.a.now c.loop-j.j (pos 0)) true (record { sfits = search rules }) c.if-a-j-lt0.true)

pub loop-j-preserved : goal.loop-j-preserved
loop-j-preserved c =
    scan_more _ _ c.loop-j.invariant
    (byte_sign (get_or c.args.a.now c.loop-j.j (pos 0)) false (record { sfits = search rules }) c.if-a-j-lt0.false)

pub returns : goal.returns
returns c =
    let e : c.loop-j.j ≡ c.args.count = omega arith in
    passed _ _ (omega arith) (omega arith) (rw e at c.loop-j.invariant)
