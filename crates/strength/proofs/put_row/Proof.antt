-- `strength::put_row` meets its contract: a turn stores one entry more, read below what is written. Assumes nothing.
use Prim.Native.Nat.{ℕ, ◌+◌, ◌-◌, ◌≤◌}
use native.Mathlib.Omega.{arith}
use borrow.Author.Rules.{rules}
use lib.ListN.{get_or}
use Rattle.laws.proofs.Planes.{Rowed, rowed_none, rowed_more, rowed_all}
use Rattle.strength.proofs.put_row.Statement.{statement}
use Rattle.strength.proofs.put_row.Tie as tie

abbrev invariant-loop : tie.invariant-loop-qp
invariant-loop list₀ from to qps qp₀ list qp = (qp ≤ 52) × Rowed 0 to (λ (j : ℕ). get_or list₀ (from + get_or qps j 0) 0) list₀ list qp

abbrev decreases-loop : tie.decreases-loop-qp
decreases-loop list₀ from to qps qp₀ list qp = 52 - qp

loop_holds : tie.Need-loop-qp-init invariant-loop decreases-loop
loop_holds c = (omega arith, rowed_none _ _ _ _)

-- the QP that stands there
small : (c : tie.In-loop-qp invariant-loop decreases-loop) → get_or c.args.qps.now c.loop-qp.qp 0 ≤ 51
small c = c.requires.2 c.loop-qp.qp

cast_list : tie.Need-overflow_cast-list invariant-loop decreases-loop
cast_list c = omega (arith, small c.before.before)

add_list : tie.Need-overflow_add-list invariant-loop decreases-loop
add_list c = omega (arith, small c.before.before)

slice_read_list : tie.Need-bounds-list-from invariant-loop decreases-loop
slice_read_list c = omega (arith, small c.before.before.before, c.loop-qp.invariant.1.long)

loop_again : tie.Need-loop-qp-preserved invariant-loop decreases-loop
loop_again c =
    let h = c.loop-qp in
    (search rules, rowed_more _ _ _ _ _ h.qp _ (omega arith) (h.invariant.1.low _ (omega (arith, small c.before.before.before))) h.invariant.1)

same_length : tie.Need-shape_of-list invariant-loop decreases-loop
same_length c = c.loop-qp.invariant.1.long

returns : tie.Need-returns invariant-loop decreases-loop
returns c = rowed_all _ _ _ _ _ _ c.loop-qp.qp (omega arith) c.loop-qp.invariant.1

pub put_row_spec : {M : Type 1} → statement M
put_row_spec =
    tie.close
    (tie.spec invariant-loop decreases-loop loop_holds (λ c. search rules) cast_list add_list slice_read_list (λ c. search rules)
    (λ c. search rules) (λ c. search rules) (λ c. search rules) loop_again same_length returns)
