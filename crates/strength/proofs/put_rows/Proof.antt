-- `strength::put_rows` meets its contract: a turn copies one row more, read below what is written. Assumes nothing.
use Prim.Native.Nat.{ℕ, ◌+◌, ◌-◌, ◌*◌, ◌/◌, ◌%◌, ◌≤◌, ◌<◌}
use mathlib.Core.Path.{◌≡◌}
use mathlib.Core.List.{List}
use native.Mathlib.Omega.{arith}
use borrow.Author.Rules.{rules}
use lib.ListN.{length, get_or}
use Rattle.laws.specs.Plane.{with_row}
use Rattle.laws.proofs.Parts.{rowed_part}
use Rattle.laws.proofs.Planes.{Rowed, rowed_none, rowed_all}
use Rattle.strength.specs.Entries.{rows_by}
use Rattle.strength.proofs.put_rows.Statement.{statement}
use Rattle.strength.proofs.put_rows.Tie as tie

-- a row more: what it reads is as it was
row_more :
    (list₀ list qps : List ℕ) (at row : ℕ) → 208 ≤ at → row < 4 → at + (52 * row + 52) ≤ length list₀ → ((qp : ℕ) → get_or qps qp 0 ≤ 51) →
    Rowed 0 at (rows_by list₀ qps) list₀ list (52 * row) →
    Rowed 0 at (rows_by list₀ qps) list₀ (with_row 0 (at + 52 * row) 52 (λ (qp : ℕ). get_or list (52 * row + get_or qps qp 0) 0) list) (52 * row + 52)
row_more list₀ list qps at row p q fits small u = rowed_part 0 at (rows_by list₀ qps) list₀ list (52 * row) 52 _ fits same u where
  same : (j : ℕ) → j < 52 → get_or list (52 * row + get_or qps j 0) 0 ≡ rows_by list₀ qps (52 * row + j)
  same j h =
      let r : (52 * row + j) / 52 ≡ row = omega arith in
      let k : (52 * row + j) % 52 ≡ j = omega arith in
      rw (r, k) (u.low (52 * row + get_or qps j 0) (omega (arith, small j)))

abbrev invariant-loop : tie.invariant-loop-row
invariant-loop list₀ at qps row₀ list row = (row ≤ 4) × Rowed 0 at (rows_by list₀ qps) list₀ list (52 * row)

abbrev decreases-loop : tie.decreases-loop-row
decreases-loop list₀ at qps row₀ list row = 4 - row

loop_holds : tie.Need-loop-row-init invariant-loop decreases-loop
loop_holds c = (omega arith, rowed_none _ _ _ _)

put_row_requires : tie.Need-put_row-requires invariant-loop decreases-loop
put_row_requires c κs = (omega arith, omega (arith, c.loop-row.invariant.1.long), c.requires.2)

loop_again : tie.Need-loop-row-preserved invariant-loop decreases-loop
loop_again c =
    let l = c.loop-row in
    let e : 52 * l.row + 52 ≡ 52 * (l.row + 1) = omega arith in
    (omega arith, rw (c.put_row.ensures, ← e) (row_more _ _ c.args.qps.now _ l.row (omega arith) (omega arith) (omega arith) c.requires.2 l.invariant.1))

same_length : tie.Need-shape_of-list invariant-loop decreases-loop
same_length c = c.loop-row.invariant.1.long

returns : tie.Need-returns invariant-loop decreases-loop
returns c = rowed_all _ _ _ _ _ _ (52 * c.loop-row.row) (omega arith) c.loop-row.invariant.1

pub put_rows_spec : {M : Type 1} → statement M
put_rows_spec =
    tie.close
    (tie.spec invariant-loop decreases-loop loop_holds (λ c. search rules) (λ c. search rules) (λ c. search rules) put_row_requires
    (λ c. search rules) (λ c. search rules) loop_again same_length returns)
