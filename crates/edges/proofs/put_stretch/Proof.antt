-- `edges::put_stretch` meets its contract: after j turns the first j edges are written. Assumes nothing.
use mathlib.Core.Path.{◌≡◌, refl, ap, ◌∙◌}
use Prim.Native.Nat.{ℕ, ◌+◌, ◌-◌, ◌*◌, ◌≤◌}
use native.Mathlib.Omega.{arith}
use lib.ListN.{length}
use lib.Seq.{sets}
use Rattle.edges.specs.Put.{Starts, stretch_numbers}
use Rattle.edges.proofs.Puts.{stretch_none, stretch_next, stretch_put}
use Rattle.edges.proofs.put_stretch.Statement.{statement}
use Rattle.edges.proofs.put_stretch.Tie as tie

abbrev invariant-loop : tie.invariant-loop-j
invariant-loop horizontal cross along n out₀ at j₀ out j =
    (j ≤ n) × (length out ≡ length out₀) × Starts cross.0 along.0 n × (at + 2 * n ≤ length out₀) × (out ≡ sets out₀ at (stretch_numbers horizontal cross.0 along.0 j))

abbrev decreases-loop : tie.decreases-loop-j
decreases-loop horizontal cross along n out₀ at j₀ out j = n - j

loop_again : tie.Need-loop-j-preserved invariant-loop decreases-loop
loop_again c =
    let l = c.loop-j in
    let a = c.args in
    let v = l.invariant in
    let e = c.put_edge in (
      omega arith,
      e.auto.out ∙ v.1,
      v.2,
      v.3,
      e.ensures ∙ stretch_next a.horizontal a.cross.0 a.along.0 a.out.now l.out a.at l.j v.2.down v.4,
    )

returns : tie.Need-returns invariant-loop decreases-loop
returns c =
    let a = c.args in
    let v = c.loop-j.invariant in
    let e : c.loop-j.j ≡ a.n = omega arith in
    stretch_put a.horizontal a.cross.0 a.along.0 a.out.now c.loop-j.out a.at a.n
    (v.4 ∙ ap (λ (n : ℕ). sets a.out.now a.at (stretch_numbers a.horizontal a.cross.0 a.along.0 n)) e)

pub put_stretch_spec : {M : Type 1} → statement M
put_stretch_spec =
    tie.close
    (tie.spec
    invariant-loop
    decreases-loop
    (λ c. (omega arith, refl, c.requires.0, c.requires.1, stretch_none c.args.horizontal c.args.cross.0 c.args.along.0 _ _))
    (λ c. omega arith)
    (λ c. omega arith)
    (λ c. omega arith)
    (λ c. omega arith)
    (λ c κs. omega arith)
    (λ c. omega arith)
    (λ c. omega arith)
    loop_again
    (λ c. omega arith)
    (λ c. omega arith)
    (λ c. c.loop-j.invariant.1)
    returns)
