-- `chroma_qp::fill` meets its contract: the table is made up to one pivot after the other. Assumes nothing.
use Prim.Native.Nat.{suc, ◌+◌, ◌-◌}
use mathlib.Core.Path.{◌≡◌, sym, ◌∙◌}
use native.Mathlib.Numerals.{add-one}
use native.Mathlib.Omega.{arith}
use borrow.Author.Rules.{rules}
use lib.IntN.{pos, ◌-ℤ◌}
use Rattle.chroma_qp_check.specs.Pivots.{Points, a_at, b_at, entry_qp}
use Rattle.chroma_qp_check.proofs.Bytes.{delta_in_is, delta_out_is}
use Rattle.chroma_qp_check.proofs.Pivots.{Tested}
use Rattle.chroma_qp_check.proofs.Points.{countable}
use Rattle.chroma_qp.proofs.Tables.{Made, first_range, made_first, Next, next_range, next_entry, made_next, made_all}
use Rattle.chroma_qp.proofs.fill.Statement.{statement}
use Rattle.chroma_qp.proofs.fill.Tie as tie

abbrev invariant-loop : tie.invariant-loop-j
invariant-loop t₀ s count a b qp-in₀ qp-out₀ v₀ j₀ t qp-in qp-out v j =
    Made s (record { count = count; a = a; b = b }) t qp-in qp-out v j

abbrev decreases-loop : tie.decreases-loop-j
decreases-loop t₀ s count a b qp-in₀ qp-out₀ v₀ j₀ t qp-in qp-out v j = count - j

-- the points of a call
abbrev points : tie.Start invariant-loop decreases-loop → Points
points c = record { count = c.args.count; a = c.args.a.now; b = c.args.b.now }

shared_slice_copy_out_delta_in : tie.Need-bounds-a-0 invariant-loop decreases-loop
shared_slice_copy_out_delta_in c = omega (arith, c.requires.1.counted.a_long)

add_qp_in : tie.Need-overflow_add-qp_in invariant-loop decreases-loop
add_qp_in c = omega (arith, c.requires.1.counted.start)

shared_slice_copy_out_delta_out : tie.Need-bounds-b-0 invariant-loop decreases-loop
shared_slice_copy_out_delta_out c = omega (arith, c.requires.1.counted.b_long)

add_qp_out : tie.Need-overflow_add-qp_out invariant-loop decreases-loop
add_qp_out c = omega (arith, c.requires.1.counted.start)

-- what `delta_in` and `delta_out` answered are the first pivot's a, and 128 more than its b
first_a : (c : tie.After-delta_in invariant-loop decreases-loop) → a_at (points c.before.before) 0 ≡ pos c.delta_in.result
first_a c =
    let k = countable _ _ c.requires.1.counted.points in
    delta_in_is _ _ (record { sfits = c.delta_in-arg-1.given }) (k.not_below 0 k.some) c.delta_in.ensures.0

first_b : (c : tie.After-delta_out invariant-loop decreases-loop) → b_at (points c.before.before.before.before) 0 ≡ pos c.delta_out.result -ℤ pos 128
first_b c = delta_out_is _ _ (record { sfits = c.delta_out-arg-1.given }) c.delta_out.ensures.0

-- pivot 0 is in range
first : (c : tie.After-delta_out invariant-loop decreases-loop) → let i = c.args.s + c.delta_in.result in Tested (entry_qp c.args.s) (points c.before.before.before.before) 0 i (i + c.delta_out.result)
first c = first_range _ _ c.requires.1 _ _ (first_a c.before.before) (first_b c)

sub_qp_out : tie.Need-overflow_sub-qp_out invariant-loop decreases-loop
sub_qp_out c = (first c).out_least

fill_below_requires : tie.Need-fill_below-requires invariant-loop decreases-loop
fill_below_requires c κs = let r = first c.before in (c.requires.0, r.in_most, omega (arith, r.out_most))

loop_holds : tie.Need-loop-j-init invariant-loop decreases-loop
loop_holds c =
    rw c.fill_below.ensures (made_first _ _ c.requires.1 _ _ (first_a c.before.before.before.before.before) (first_b c.before.before.before) _ c.requires.0)

add_loop : tie.Need-overflow_add-j invariant-loop decreases-loop
add_loop c = omega (arith, c.loop-j.invariant.within)

add_j : tie.Need-overflow_add-j-in-loop-j invariant-loop decreases-loop
add_j c = omega arith

shared_slice_copy_out_delta_in_2 : tie.Need-bounds-a-j invariant-loop decreases-loop
shared_slice_copy_out_delta_in_2 c =
    omega (arith, (countable _ _ c.requires.1.counted.points).most, c.requires.1.counted.a_long)

add_n : tie.Need-overflow_add-n invariant-loop decreases-loop
add_n c = omega arith

add_next : tie.Need-overflow_add-next invariant-loop decreases-loop
add_next c = omega (arith, c.loop-j.invariant.reached.out_most)

shared_slice_copy_out_delta_out_2 : tie.Need-bounds-b-j invariant-loop decreases-loop
shared_slice_copy_out_delta_out_2 c =
    omega (arith, (countable _ _ c.requires.1.counted.points).most, c.requires.1.counted.b_long)

add_next_2 : tie.Need-overflow_add-next-in-loop-j invariant-loop decreases-loop
add_next_2 c = omega (arith, c.loop-j.invariant.reached.out_most)

-- the next pivot's point, and that the pivot is in range
point : (c : tie.After-delta_out-in-loop-j invariant-loop decreases-loop) → Next (points c.before.before.before.before.before.before.before.before.before.before.before.before.before)
    c.loop-j.j c.delta_in-n.result c.delta_out-in-loop-j.result
point c =
    let p = points c.before.before.before.before.before.before.before.before.before.before.before.before.before in
    let j = c.loop-j.j in
    let there = c.loop-j-test.true in
    let k = countable _ _ c.requires.1.counted.points in
    let a : a_at p (j + 1) ≡ pos c.delta_in-n.result =
    delta_in_is _ _ (record { sfits = c.delta_in-arg-in-loop-j-1.given }) (k.not_below _ there) c.delta_in-n.ensures.0 in
    let b : b_at p (j + 1) ≡ pos c.delta_out-in-loop-j.result -ℤ pos 128 =
    delta_out_is _ _ (record { sfits = c.delta_out-arg-in-loop-j-1.given }) c.delta_out-in-loop-j.ensures.0 in
    record { there = omega (arith, there); at_a = rw (add-one j) at a; at_b = rw (add-one j) at b }

next : (c : tie.After-delta_out-in-loop-j invariant-loop decreases-loop) → let l = c.loop-j in
    let n = c.delta_in-n.result + 1 in Tested (entry_qp c.args.s) (points c.before.before.before.before.before.before.before.before.before.before.before.before.before) (suc l.j) (l.qp_in + n) (l.qp_out + n + c.delta_out-in-loop-j.result)
next c = next_range _ _ c.requires.1 _ _ _ _ _
    c.loop-j.invariant _ _ (point c)

sub_next : tie.Need-overflow_sub-next invariant-loop decreases-loop
sub_next c = (next c).out_least

fill_between_requires : tie.Need-fill_between-requires invariant-loop decreases-loop
fill_between_requires c κs =
    let m = c.loop-j.invariant in
    let r = next c.before in
    (m.filled.long, r.in_most, omega arith, omega (arith, m.reached.least), omega (arith, m.reached.most), m.reached.out_most, omega (arith, r.out_most))

add_qp_in_2 : tie.Need-overflow_add-qp_in-in-loop-j invariant-loop decreases-loop
add_qp_in_2 c = omega (arith, (next c.before.before.before).in_most)

held_at_requires : tie.Need-held_at-v-requires invariant-loop decreases-loop
held_at_requires c κs = (
  omega (arith, c.fill_between.auto.t, c.loop-j.invariant.filled.long, (next c.before.before.before).in_most),
  next_entry _ _ c.requires.1 _ _ _ _ _ c.loop-j.invariant _ _ (point c.before.before.before) _ c.fill_between.ensures,
)

loop_less : tie.Need-loop-j-smaller invariant-loop decreases-loop
loop_less c = omega (arith, c.loop-j-test.true)

loop_again : tie.Need-loop-j-preserved invariant-loop decreases-loop
loop_again c =
    rw (add-one c.loop-j.j)
    (made_next _ _ c.requires.1 _ _ _ _ _ c.loop-j.invariant _ _ (point c.before.before.before.before) _
    c.fill_between.ensures _ c.held_at-v.ensures)

fill_past_requires : tie.Need-fill_past-requires invariant-loop decreases-loop
fill_past_requires c κs = let m = c.loop-j.invariant in (m.filled.long, m.reached.in_most, omega (arith, m.reached.in_most, m.reached.most, m.reached.out_most))

same_length : tie.Need-shape_of-t invariant-loop decreases-loop
same_length c = c.fill_past.auto.t ∙ c.loop-j.invariant.filled.long
    ∙ sym c.requires.0

returns : tie.Need-returns invariant-loop decreases-loop
returns c =
    let l = c.loop-j in
    c.fill_past.ensures ∙ made_all _ _
    c.requires.1 _ _ _ _ _ l.invariant (omega (arith, l.invariant.within))

pub fill_spec : {M : Type 1} → statement M
fill_spec =
    tie.close
    (tie.spec invariant-loop decreases-loop shared_slice_copy_out_delta_in (λ c κs. search rules) add_qp_in shared_slice_copy_out_delta_out (λ c κs. search rules) add_qp_out
    sub_qp_out fill_below_requires loop_holds add_loop add_j shared_slice_copy_out_delta_in_2 (λ c κs. search rules) add_n add_next shared_slice_copy_out_delta_out_2
    (λ c κs. search rules) add_next_2 sub_next fill_between_requires add_qp_in_2 held_at_requires loop_less loop_again fill_past_requires same_length returns)
