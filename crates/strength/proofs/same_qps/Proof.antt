-- `strength::same_qps` meets its contract: as many QPs are alike as were compared only where all of them are. Assumes nothing.
use Prim.Native.Nat.{ℕ, ◌+◌, ◌-◌, ◌≤◌, ◌<◌}
use mathlib.Core.Path.{◌≡◌}
use mathlib.Core.List.{List}
use native.Mathlib.Decide.{dec_lt}
use native.Mathlib.Omega.{arith}
use borrow.Author.Rules.{rules}
use borrow.Author.Tests.{eqb-true}
use lib.ListN.{get_or}
use Rattle.strength.proofs.same_qps.Statement.{statement}
use Rattle.strength.proofs.same_qps.Tie as tie

abbrev Alike : (a b : List ℕ) → ℕ → Type 0
Alike a b qp = (k : ℕ) → k < qp → get_or a k 0 ≡ get_or b k 0

-- one QP more
more :
    (a b : List ℕ) (qp alike r : ℕ) → alike ≤ qp → r ≤ 1 → (r ≡ 1 → get_or a qp 0 ≡ get_or b qp 0) → (alike ≡ qp → Alike a b qp) →
    alike + r ≡ qp + 1 → Alike a b (qp + 1)
more a b qp alike r few one here below all k less = at (dec_lt k qp) where
  at : Dec (k < qp) → get_or a k 0 ≡ get_or b k 0
  at (yes h) = below (omega arith) k h
  at (no h) = let e : k ≡ qp = omega arith in rw e (here (omega arith))

abbrev invariant-loop : tie.invariant-loop-qp
invariant-loop a b alike₀ qp₀ alike qp = (qp ≤ 52) × (alike ≤ qp) × (alike ≡ qp → Alike a b qp)

abbrev decreases-loop : tie.decreases-loop-qp
decreases-loop a b alike₀ qp₀ alike qp = 52 - qp

none : (a b : List ℕ) → Alike a b 0
none a b k h = absurd (omega arith)

loop_holds : tie.Need-loop-qp-init invariant-loop decreases-loop
loop_holds c = (omega arith, omega arith, λ e. none c.args.a.now c.args.b.now)

add_alike : tie.Need-overflow_add-alike invariant-loop decreases-loop
add_alike c = omega (arith, c.same-alike.ensures.0)

loop_again : tie.Need-loop-qp-preserved invariant-loop decreases-loop
loop_again c =
    let h = c.loop-qp in
    let r = c.same-alike.ensures in
    (omega arith, omega (arith, r.0), more c.args.a.now c.args.b.now h.qp h.alike c.same-alike.result h.invariant.1 r.0 r.1 h.invariant.2)

returns : tie.Need-returns invariant-loop decreases-loop
returns c t k less =
    let h = c.loop-qp in
    h.invariant.2 (omega (arith, eqb-true h.alike _ t)) k (omega arith)

pub same_qps_spec : {M : Type 1} → statement M
same_qps_spec =
    tie.close
    (tie.spec invariant-loop decreases-loop loop_holds (λ c. search rules) (λ c. search rules) (λ c κs. search rules) add_alike (λ c. search rules)
    (λ c. search rules) loop_again returns)
