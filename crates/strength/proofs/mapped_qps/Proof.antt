-- `strength::mapped_qps` meets its contract: places 51 apart follow one another, and else each QP is mapped by itself. Assumes nothing.
use Prim.Native.Nat.{ℕ, ◌+◌}
use mathlib.Core.Path.{◌≡◌, ap, ◌∙◌}
use native.Mathlib.Omega.{arith}
use borrow.Author.Rules.{rules}
use lib.IntN.{ℤ}
use mir.Syntax.{w8}
use Rattle.laws.proofs.Widths.{back}
use Rattle.strength.specs.ChromaQp.{index_of, mapped_qps, straight_qps}
use Rattle.strength.proofs.Straight.{straight_row}
use Rattle.strength.proofs.mapped_qps.Statement.{statement}
use Rattle.strength.proofs.mapped_qps.Tie as tie

-- the offset, read back from its byte
index_at : (s : tie.Start) (qp i : ℕ) (z : ℤ) → z ≡ s.args.offset → i ≡ index_of z qp → i ≡ index_of s.args.offset qp
index_at s qp i z same e = e ∙ ap (λ (x : ℤ). index_of x qp) same

returns : tie.Need-returns-then-last-first-eq51
returns c =
    let t = c.args.table.now in
    let z = c.args.offset in
    let f = c.index_of-first in
    let l = c.index_of-last in
    let e = index_at c.before.before.before.before.before.before 0 f.result _ (back w8 _ c.ranges.offset) f.ensures in
    let m = index_at c.before.before.before.before.before.before 51 l.result _ (back w8 _ c.ranges.offset) l.ensures in
    let apart : index_of z 51 ≡ index_of z 0 + 51 = omega (arith, e, m) in
    c.straight_qps.ensures ∙ ap (straight_qps t) e ∙ straight_row t z apart

returns-2 : tie.Need-returns
returns-2 c =
    c.clipped_qps.ensures ∙ ap (mapped_qps c.args.table.now) (back w8 _ c.ranges.offset)

pub mapped_qps_spec : {M : Type 1} → statement M
mapped_qps_spec = tie.close (tie.spec (λ c κs. search rules) (λ c κs. search rules) (λ c κs. search rules) returns (λ c κs. search rules) returns-2)
